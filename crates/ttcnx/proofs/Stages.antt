-- What each stage of the work answers.
use Rattle.std.proofs.Common.{◌≡◌, ◌≢◌, ℕ, ◌<◌, ◌≤◌, List, [], length, refl, sym, ap, subst, inl, inr}
use Rattle.std.specs.Prelude.{◌⊎◌, ◌↔◌, Some, None, Result, Ok, Err, IfErr}
use Rattle.std.specs.Result.{IsErr, IsErrAnd}
use Rattle.std.proofs.lemmas.Bool.{cases_lt}
use Rattle.search_layer.specs.Limits.{IsWithinLimits}
use Rattle.search_layer.specs.declared.plan.ExploreError.{ExploreError}
use Rattle.search_layer.specs.declared.plan.ExploreError.TheVariants as searching
use Rattle.search_layer.specs.declared.plan.Plan.{Plan}
use Rattle.laws_live.specs.Parts.{CountsParts}
use Rattle.report_script.specs.Scripts.{script_said}
use Rattle.report_script.specs.declared.error.ScriptError.{ScriptError}
use Rattle.report_script.specs.declared.error.ScriptError.TheVariants as scripting
use Rattle.semantics.specs.Snapshots.{Test}
use Rattle.ttcn_syntax.specs.Cut.{Stops, at_fault, past_gap, past_token, no_piece, unended_comment, unended_text, number_too_large}
use Rattle.ttcn_syntax.specs.Limits.{longest_text}
use Rattle.ttcn_syntax.specs.declared.error.LexError.{LexError}
use Rattle.ttcn_syntax.specs.declared.tree.definition.Definition.{Definition}
use Rattle.ttcn_syntax.specs.declared.error.LexError.TheVariants as lexical
use Rattle.ttcnx.specs.Answer.{Answer, IsAnswer, lacking, named, too_many}
use Rattle.ttcnx.specs.Checked.{IsRefusedWith}
use Rattle.ttcnx.specs.Fault.{explore_fault, script_fault}
use Rattle.ttcnx.specs.Named.{HasNoCase, HasNoTest, IsCaseOf, IsTestOf, Source, caseless, refused, unscripted}
use Rattle.ttcnx.specs.declared.fault.Fault.{Fault}
use Rattle.ttcnx.specs.declared.fault.Fault.TheVariants as fault

-- a fault that was made of another error
pub from-error : {A : Type 0} (r : Result A Fault) (why : Fault) (P : Fault → Type 0) → IsErrAnd r (λ x. x ≡ why) → P why → IfErr r P
from-error (Ok a) why P is holds = tt
from-error (Err x) why P is holds = subst P (sym is) holds

-- a fault that was made of another error, as a result
pub as-error : {A E : Type 0} (r : Result A E) (why : E) (P : Result A E → Type 0) → IsErr r → IsErrAnd r (λ x. x ≡ why) → P (Err why) → P r
as-error (Ok a) why P is_err is holds = cc
as-error (Err x) why P is_err is holds = subst (λ x. P (Err x)) (sym is) holds

-- ---- the text

pub no-stop : {before text : List ℕ} {e : LexError} → Stops before text e → e ≡ lexical.TextTooLong → ⊥
no-stop (at_fault longest no_piece) is = cc
no-stop (at_fault longest unended_comment) is = cc
no-stop (at_fault longest unended_text) is = cc
no-stop (at_fault longest (number_too_large large)) is = cc
no-stop (past_gap longest gap more) is = no-stop more is
no-stop (past_token longest gives more) is = no-stop more is

-- a text that isn't too long
pub short : {A : Type 0} (text : List ℕ) (result : Result A LexError) → ((result ≡ Err lexical.TextTooLong) ↔ (longest_text < length text))
    → (result ≡ Err lexical.TextTooLong → ⊥) → length text ≤ longest_text
short text result exactly other = within (cases_lt longest_text (length text))
  where
    within : (longest_text < length text) ⊎ (length text ≤ longest_text) → length text ≤ longest_text
    within (inl long) = absurd (other (exactly.1 long))
    within (inr fine) = fine

pub cut-is-short : {A : Type 0} (text : List ℕ) (tokens : A) → (◌≡◌ {A = Result A LexError} (Ok tokens) (Err lexical.TextTooLong) ↔ (longest_text < length text))
    → length text ≤ longest_text
cut-is-short text tokens exactly = short text (Ok tokens) exactly (λ h. cc)

-- ---- the test case

-- a text of no well-typed module has no test case
pub text-lacks : (text name : List ℕ) (why : Fault) → (why ≡ fault.Memory) ⊎ IsRefusedWith text why → (why ≡ fault.Memory) ⊎ HasNoCase text name why
text-lacks text name why (inl is) = inl is
text-lacks text name why (inr is) = inr (refused is)

-- without a test case there is none with a script
pub case-lacks : (given : Source) (name : List ℕ) (why : Fault) → (why ≡ fault.Memory) ⊎ HasNoCase given.text name why → (why ≡ fault.Memory) ⊎ HasNoTest given name why
case-lacks given name why (inl is) = inl is
case-lacks given name why (inr is) = inr (caseless is)

-- nor is there one where the script is refused
pub script-lacks : (given : Source) (name : List ℕ) {definitions : List Definition} {at : ℕ} (error : ScriptError) → IsCaseOf given.text name definitions at
    → (error ≢ scripting.Memory → script_said definitions at given.script ≡ Err error) → (script_fault error ≡ fault.Memory) ⊎ HasNoTest given name (script_fault error)
script-lacks given name scripting.TooLarge is refused_so = inr (unscripted is (refused_so (λ same. cc)))
script-lacks given name scripting.BadJson is refused_so = inr (unscripted is (refused_so (λ same. cc)))
script-lacks given name scripting.NoSuchPort is refused_so = inr (unscripted is (refused_so (λ same. cc)))
script-lacks given name scripting.BadMessage is refused_so = inr (unscripted is (refused_so (λ same. cc)))
script-lacks given name scripting.Memory is refused_so = inl refl

-- ---- the search

-- there is no test case
pub name-answers : (given : Source) (name : List ℕ) (plan : Plan) (why : Fault) → IsWithinLimits plan → (why ≡ fault.Memory) ⊎ HasNoTest given name why
    → (◌≡◌ {A = Answer} (Err why) (Err fault.Memory)) ⊎ IsAnswer given name plan (Err why)
name-answers given name plan why fine (inl is) = inl (ap Err is)
name-answers given name plan why fine (inr is) = inr (lacking fine is)

-- a refusal of the search
pub search-answers : (given : Source) (name : List ℕ) (plan : Plan) (test : Test) (e : ExploreError) → IsWithinLimits plan → IsTestOf given name test
    → (e ≡ searching.BadPlan → IsWithinLimits plan → ⊥)
    → (e ≡ searching.TooMany → (count : ℕ) × CountsParts test plan.steps count × (plan.limit < count))
    → (◌≡◌ {A = Answer} (Err (explore_fault e)) (Err fault.Memory)) ⊎ IsAnswer given name plan (Err (explore_fault e))
search-answers given name plan test searching.BadPlan fine is out many = absurd (out refl fine)
search-answers given name plan test searching.TooMany fine is out many = let more = many refl in inr (named fine is (too_many more.1 more.2))
search-answers given name plan test searching.Memory fine is out many = inl refl
