-- What a failure gives for a use.
use Rattle.std.proofs.Common.{◌≡◌, ℕ, List, [], ◌∷◌, Result, Ok, Err, refl, sym, ap, subst, ◌∙◌}
use Rattle.ttcn_syntax.specs.declared.tree.definition.Definition.{Definition}
use Rattle.ttcn_values.specs.internal.Readers.{taken_for}
use Rattle.value_types.specs.Outcomes.{Failure, Fails, Gives, Outcome, Yields, value_in}
use Rattle.value_types.specs.Readings.{along}
use Rattle.value_types.specs.declared.fault.Fault.{Fault}
use Rattle.value_types.specs.declared.fault.Fault.TheVariants.{Dynamic, Memory}
use Rattle.ttcn_values.specs.declared.reader.Use.{Use}
use Rattle.ttcn_values.specs.declared.reader.Use.TheVariants as use_form
use Rattle.value_types.specs.declared.value.Value.{Value}

along-failure : (definitions : List Definition) (fields : List (List ℕ)) (why : Failure) → along definitions fields (Fails why) ≡ Fails why
along-failure definitions [] why = refl
along-failure definitions (field ∷ fields) why = along-failure definitions fields why

-- a failure stays one
pub taken_of_failure : (wanted : Use) (definitions : List Definition) (fields : List (List ℕ)) (why : Failure) → taken_for wanted definitions fields (Fails why) ≡ Fails why
taken_of_failure use_form.Value definitions fields why = along-failure definitions fields why
taken_of_failure use_form.Presence definitions fields why = refl

-- what is given for what has the same value, or none either
pub taken_alike : (wanted : Use) (definitions : List Definition) (fields : List (List ℕ)) (one other : Outcome Value) (r : Result Value Fault)
    → value_in one ≡ value_in other → Gives (taken_for wanted definitions fields other) r → Gives (taken_for wanted definitions fields one) r
taken_alike wanted definitions fields (Yields a) (Yields b) r same gives =
    let e : a ≡ b = cc in
    subst (λ v. Gives (taken_for wanted definitions fields (Yields v)) r) (sym e) gives
taken_alike wanted definitions fields (Yields a) (Fails why) r same gives = absurd (let e = same in cc)
taken_alike wanted definitions fields (Fails why) (Yields b) r same gives = absurd (let e = same in cc)
taken_alike wanted definitions fields (Fails why) (Fails because) (Ok v) same gives =
    absurd (let e : Fails because ≡ Yields v = sym (taken_of_failure wanted definitions fields because) ∙ gives in cc)
taken_alike wanted definitions fields (Fails why) (Fails because) (Err Dynamic) same gives = ap value_in (taken_of_failure wanted definitions fields why)
taken_alike wanted definitions fields (Fails why) (Fails because) (Err Memory) same gives = tt
