-- A module, a script, the name of a test case and a plan have one answer.
use Rattle.std.proofs.Common.{◌≡◌, ℕ, List, refl, sym, ap, subst, ◌∙◌, arith}
use Rattle.std.specs.Prelude.{Some, Result, Ok, Err}
use Rattle.search_layer.specs.declared.plan.Plan.{Plan}
use Rattle.laws_live.proofs.PartCounts.{counts-once}
use Rattle.check_rules.specs.Programs.{test_case_named}
use Rattle.report_script.specs.Scripts.{script_said}
use Rattle.report_script.specs.declared.error.ScriptError.{ScriptError}
use Rattle.report_script.specs.declared.error.ScriptError.TheVariants as scripting
use Rattle.semantics.specs.Snapshots.{Script, Test}
use Rattle.ttcn_syntax.proofs.Once.{reads-once}
use Rattle.ttcn_syntax.specs.declared.tree.definition.Definition.{Definition}
use Rattle.ttcn_syntax.specs.declared.tree.definition.Module.{Module}
use Rattle.ttcn_parse.proofs.Complete.{one_tree}
use Rattle.ttcn_parse.specs.Refused.{IsRead}
use Rattle.ttcnx.specs.Answer.{Answer, HasOneAnswer, OfTestCase, SameAnswer, beyond, lacking, named, told, too_many}
use Rattle.ttcnx.specs.Checked.{IsTextOf}
use Rattle.ttcnx.specs.Fault.{SameFault, script_fault}
use Rattle.ttcnx.specs.Named.{HasNoCase, HasNoTest, IsCaseOf, IsTestOf, Source, caseless, nameless, refused, unscripted}
use Rattle.ttcnx.specs.declared.fault.Fault.{Fault}
use Rattle.ttcnx.proofs.Checks.{one_judgement, some-is}
use Rattle.ttcnx.proofs.OneReport.{one-report}

-- ---- what is given has one test case of a name, or one reason for none

one-module : (text : List ℕ) (tree other : Module) → IsTextOf text tree → IsTextOf text other → tree ≡ other
one-module text tree other h k =
    let same = (reads-once text).one_cut h.tokens k.tokens h.is_cut k.is_cut in
    let read = subst (λ tokens. IsRead tokens tree) same h.is_read in
    one_tree k.tokens tree other read.is_module k.is_read.is_module

-- a text and a name have one test case
one-case : (text name : List ℕ) (definitions others : List Definition) (at other : ℕ) → IsCaseOf text name definitions at → IsCaseOf text name others other → (definitions ≡ others) × (at ≡ other)
one-case text name definitions others at other h k =
    let same = one-module text h.tree k.tree h.is_text k.is_text in (
      h.of_tree ∙ ap (λ (tree : Module). tree.definitions) same ∙ sym k.of_tree,
      some-is (sym h.is_named ∙ ap (λ (tree : Module). test_case_named tree.definitions name) same ∙ k.is_named),
    )

case-or-none : (text name : List ℕ) (definitions : List Definition) (at : ℕ) (why : Fault) → IsCaseOf text name definitions at → HasNoCase text name why → ⊥
case-or-none text name definitions at why h (refused r) = (one_judgement text).not_both (h.tree, h.is_text) r
case-or-none text name definitions at why h (nameless {tree = tree} is none) =
    let found = subst (λ (tree : Module). test_case_named tree.definitions name ≡ Some at) (one-module text h.tree tree h.is_text is) h.is_named in
    let no = sym found ∙ none in
    cc

one-lack : (text name : List ℕ) (why other : Fault) → HasNoCase text name why → HasNoCase text name other → SameFault why other
one-lack text name why other (refused h) (refused k) = (one_judgement text).one_refusal h k
one-lack text name why other (refused h) (nameless {tree = tree} is none) = absurd ((one_judgement text).not_both (tree, is) h)
one-lack text name why other (nameless {tree = tree} is none) (refused k) = absurd ((one_judgement text).not_both (tree, is) k)
one-lack text name why other (nameless is none) (nameless also too) = refl

-- what a script is for a test case
script-same : (text name script : List ℕ) (definitions others : List Definition) (at other : ℕ) → IsCaseOf text name definitions at → IsCaseOf text name others other
    → script_said definitions at script ≡ script_said others other script
script-same text name script definitions others at other h k =
    let same = one-case text name definitions others at other h k in
    λ i. script_said (same.0 i) (same.1 i) script

script-ok : {ports others : Script} → ◌≡◌ {A = Result Script ScriptError} (Ok ports) (Ok others) → ports ≡ others
script-ok {ports = ports} h = let the : Result Script ScriptError → Script = λ r. elim r as (λ _. Script) [ Ok x ↦ x | Err e ↦ ports ] in ap the h

script-err : {error other : ScriptError} → ◌≡◌ {A = Result Script ScriptError} (Err error) (Err other) → error ≡ other
script-err {error = error} h = let the : Result Script ScriptError → ScriptError = λ r. elim r as (λ _. ScriptError) [ Ok x ↦ error | Err e ↦ e ] in ap the h

fault-itself : (error : ScriptError) → SameFault (script_fault error) (script_fault error)
fault-itself scripting.TooLarge = refl
fault-itself scripting.BadJson = refl
fault-itself scripting.NoSuchPort = refl
fault-itself scripting.BadMessage = refl
fault-itself scripting.Memory = refl

pub one-test : (given : Source) (name : List ℕ) (test other : Test) → IsTestOf given name test → IsTestOf given name other → test ≡ other
one-test given name test other h k =
    let same = one-case given.text name test.definitions other.definitions test.testcase other.testcase h.is_case k.is_case in
    let script = script-ok (sym h.is_script ∙ script-same given.text name given.script test.definitions other.definitions test.testcase other.testcase h.is_case k.is_case ∙ k.is_script) in
    λ i. record { definitions = same.0 i; testcase = same.1 i; script = script i }

pub not_both : (given : Source) (name : List ℕ) (test : Test) (why : Fault) → IsTestOf given name test → HasNoTest given name why → ⊥
not_both given name test why h (caseless none) = case-or-none given.text name test.definitions test.testcase why h.is_case none
not_both given name test why h (unscripted {definitions = definitions} {at = at} is refuses) =
    let no = sym h.is_script ∙ script-same given.text name given.script test.definitions definitions test.testcase at h.is_case is ∙ refuses in
    cc

pub one-reason : (given : Source) (name : List ℕ) (why other : Fault) → HasNoTest given name why → HasNoTest given name other → SameFault why other
one-reason given name why other (caseless h) (caseless k) = one-lack given.text name why other h k
one-reason given name why other (caseless h) (unscripted {definitions = definitions} {at = at} is refuses) = absurd (case-or-none given.text name definitions at why is h)
one-reason given name why other (unscripted {definitions = definitions} {at = at} is refuses) (caseless k) = absurd (case-or-none given.text name definitions at other is k)
one-reason given name why other (unscripted {definitions = definitions} {at = at} {error = error} is refuses) (unscripted {definitions = others} {at = place} {error = second} also too) =
    subst (λ e. SameFault (script_fault error) (script_fault e))
    (script-err (sym refuses ∙ script-same given.text name given.script definitions others at place is also ∙ too)) (fault-itself error)

-- ---- a test case has one answer

one-of-test-case : (test : Test) (name : List ℕ) (plan : Plan) (a b : Answer) → OfTestCase test name plan a → OfTestCase test name plan b → SameAnswer a b
one-of-test-case test name plan a b (too_many count more) (too_many other over) = refl
one-of-test-case test name plan a b (too_many {count = n} count more) (told {report = report} tells) =
    let same = counts-once test plan.steps n report.configurations count (tells.runs).configurations in
    let few = tells.within in
    absurd (omega (arith, more, same, few))
one-of-test-case test name plan a b (told {report = report} tells) (too_many {count = n} count more) =
    let same = counts-once test plan.steps n report.configurations count (tells.runs).configurations in
    let few = tells.within in
    absurd (omega (arith, more, same, few))
one-of-test-case test name plan a b (told {report = report} tells) (told {report = other} tells_too) =
    one-report test name plan report other tells tells_too

pub one_answer : (given : Source) (name : List ℕ) (plan : Plan) → HasOneAnswer given name plan
one_answer given name plan a b (beyond out) (beyond also) = refl
one_answer given name plan a b (beyond out) (lacking fine why) = absurd (out fine)
one_answer given name plan a b (beyond out) (named fine is more) = absurd (out fine)
one_answer given name plan a b (lacking fine why) (beyond out) = absurd (out fine)
one_answer given name plan a b (lacking {why = one} fine why) (lacking {why = other} also too) = one-reason given name one other why too
one_answer given name plan a b (lacking {why = one} fine why) (named {test = test} also is more) = absurd (not_both given name test one is why)
one_answer given name plan a b (named fine is more) (beyond out) = absurd (out fine)
one_answer given name plan a b (named {test = test} fine is more) (lacking {why = one} also why) = absurd (not_both given name test one is why)
one_answer given name plan a b (named {test = test} fine is more) (named {test = other} also too more_too) =
    let same = one-test given name test other is too in
    one-of-test-case other name plan a b (subst (λ test. OfTestCase test name plan a) same more) more_too
