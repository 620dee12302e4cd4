-- The JSON that a text is, and what comes of it.
use Rattle.std.proofs.Common.{◌≡◌, ℕ, ◌≤◌, Bool, true, false, nat_lt, length, List, [], Some, None, if◌then◌else◌, refl, sym, ap, ◌∙◌, arith}
use Rattle.std.proofs.lemmas.Bool.Decides.{nat_tests}
use Rattle.std.proofs.lemmas.Str.{IsUtf8-from_is_utf8, is_utf8-from_IsUtf8}
use Rattle.std.specs.Str.{IsUtf8, is_utf8}
use Rattle.ttcn_syntax.specs.declared.tree.definition.Definition.{Definition}
use Rattle.check_scope.specs.Names.{Scope}
use Rattle.check_scope.specs.Scopes.{scope_on}
use Rattle.semantics.specs.Statements.{system_type}
use Rattle.report_script.specs.Scripts.{json_in, most_bytes, script_of, script_of_json, script_said, test_with}
use Rattle.serde_json.specs.Data.{Data}
use Rattle.serde_json.specs.Find.{as_object}
use Rattle.serde_json.specs.Read.{read}

pub json-read : (text : List ℕ) (d : Data) → IsUtf8 text → read text ≡ Some d → json_in text ≡ Some d
json-read text d whole is = rw (is_utf8-from_IsUtf8 text whole) is

pub json-none : (text : List ℕ) → (IsUtf8 text → read text ≡ None) → json_in text ≡ None
json-none text none = by (is_utf8 text) refl
  where
    by : (b : Bool) → is_utf8 text ≡ b → (if b then read text else None) ≡ None
    by true whole = none (IsUtf8-from_is_utf8 text whole)
    by false whole = refl

small : (n most : ℕ) → n ≤ most → nat_lt most n ≡ false
small n most within = grind (arith, nat_tests)

-- a text that is not too large, where the ports are those of a scope
pub said : (definitions given : List Definition) (testcase position : ℕ) (text : List ℕ) (d : Data) (scope : Scope) → length text ≤ most_bytes → json_in text ≡ Some d
    → scope ≡ scope_on given (Some (system_type (test_with given position []))) → given ≡ definitions → position ≡ testcase → script_of scope.definitions scope.names (as_object d) ≡ script_said definitions testcase text
said definitions given testcase position text d scope within is at same here =
    let there : scope ≡ scope_on definitions (Some (system_type (test_with definitions testcase []))) =
    at ∙ ap (λ ds. scope_on ds (Some (system_type (test_with ds position [])))) same ∙ ap (λ n. scope_on definitions (Some (system_type (test_with definitions n [])))) here in
    ap (λ (s : Scope). script_of s.definitions s.names (as_object d)) there ∙ sym (rw (small (length text) most_bytes within) (ap (script_of_json definitions testcase) is))
