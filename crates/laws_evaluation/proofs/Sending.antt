-- The specific value that a template stands for.
use Rattle.std.proofs.Common.{◌≡◌, ℕ, Bool, true, false, not, ◌||◌, List, [], ◌∷◌, ◌++◌, map, Option, Some, if◌then◌else◌, refl, sym, ap, subst, ◌∙◌}
use Rattle.std.proofs.lemmas.Bool.{and_parts}
use Rattle.std.specs.List.{list_all}
use Rattle.ttcn_syntax.specs.declared.tree.definition.Definition.{Definition}
use Rattle.ttcn_syntax.specs.declared.tree.definition.Field.{Field}
use Rattle.ttcn_syntax.specs.declared.tree.template.MessageTemplate.{MessageTemplate}
use Rattle.check_rules.specs.Expressions.{Judgement}
use Rattle.check_rules.specs.Templates.{template}
use Rattle.check_rules.specs.Values.{field_target}
use Rattle.check_scope.specs.Names.{Scope, fields_at}
use Rattle.check_scope.specs.Typings.{target_of, type_known}
use Rattle.check_scope.specs.declared.rule.Rule.{Rule}
use Rattle.check_scope.specs.declared.types.DataType.{DataType}
use Rattle.check_scope.specs.declared.types.DataType.TheVariants as type
use Rattle.check_scope.specs.declared.types.Target.{Target}
use Rattle.check_scope.specs.declared.types.Typing.TheVariants as typing
use Rattle.check_rules.specs.Messages.{Passing, check_message, check_type_name, type_of_message}
use Rattle.laws_checker.proofs.Nothing.{nothing-rest}
use Rattle.laws_checker.specs.Laws.{IsWhole}
use Rattle.laws_evaluation.proofs.Only.{only-of, only-then}
use Rattle.laws_evaluation.proofs.TypedRecords.{true-both}
use Rattle.laws_evaluation.proofs.TypedTemplates.{goes-of-pattern, goes-of-template, pattern_goes, templates_met, templates_typed}
use Rattle.laws_evaluation.proofs.TypedValues.{goes-rolled, weaker-goes, with_goes}
use Rattle.laws_evaluation.specs.Types.{FieldsDiffer, FitsIn, HasAll, ParametersKnown, go_to_each, go_to_fields, template_goes, value_goes, wants}
use Rattle.laws_evaluation.specs.Uses.{GivesOnly, IsSpecific}
use Rattle.value_types.specs.Matching.{all_fields, before_fields, record_with, specific_step, specific_template_step, specific_value, specific_value_of_pattern}
use Rattle.value_types.specs.Outcomes.{DynamicError, Fails, Outcome, Unmet, Yields, dynamic_error, outcome_and_then}
use Rattle.value_types.specs.Readings.{Reading}
use Rattle.value_types.specs.Templates.{template_wanted}
use Rattle.value_types.specs.Values.{complete_step, has_value, is_complete}
use Rattle.value_types.specs.declared.template.Pattern.{Pattern, roll-Pattern}
use Rattle.value_types.specs.declared.template.Pattern.TheFolds as fold
use Rattle.value_types.specs.declared.template.Pattern.TheOpen as level
use Rattle.value_types.specs.declared.template.Template.{Template, roll-Template}
use Rattle.value_types.specs.declared.value.Value.{Value}
use Rattle.value_types.specs.declared.value.Value.TheFolds as values
use Rattle.value_types.specs.declared.value.Value.TheOpen.{Value-F}
use Rattle.value_types.specs.declared.value.Value.TheShapes.{former-Value-Record-1-at-1}
use Rattle.value_types.specs.declared.value.Value.TheVariants as value

-- a field, by whether it lacks something
abbrev with_whole : Option Value → Option Bool
with_whole = former-Value-Record-1-at-1.map Value Bool is_complete

-- ---- values

omit-specific : (definitions : List Definition) (target : Target) → target.optional ≡ true → IsSpecific definitions target value.Omit
omit-specific definitions target may = record {
  goes = ap (λ v. value_goes v definitions target) (sym value.rolls-Omit) ∙ goes-rolled definitions Value-F.Omit target ∙ may;
  is_whole = ap is_complete (sym value.rolls-Omit) ∙ values.fold-roll-Value Bool complete_step Value-F.Omit;
}

record-specific : (definitions : List Definition) (target : Target) (at : ℕ) (states : List (Option Value)) → wants (type.Record at) target.data_type ≡ true
    → go_to_fields definitions (fields_at definitions at) (map with_goes states) ≡ true → list_all has_value (map with_whole states) ≡ true → IsSpecific definitions target (value.Record at states)
record-specific definitions target at states wanted go complete = record {
  goes = ap (λ v. value_goes v definitions target) (sym (value.rolls-Record at states)) ∙ goes-rolled definitions (Value-F.Record at states) target
      ∙ true-both (wants (type.Record at) target.data_type) (go_to_fields definitions (fields_at definitions at) (map with_goes states)) wanted go;
  is_whole = ap is_complete (sym (value.rolls-Record at states)) ∙ values.fold-roll-Value Bool complete_step (Value-F.Record at states) ∙ complete;
}

-- ---- templates

-- what goes to a target stands for a value that goes there, if for any
abbrev SpecificPattern : Pattern → Type 0
SpecificPattern p = (definitions : List Definition) (target : Target) → pattern_goes p definitions target ≡ true → GivesOnly (specific_value_of_pattern p) (IsSpecific definitions target)

abbrev Specific : Template → Type 0
Specific t = (definitions : List Definition) (target : Target) → template_goes t definitions target ≡ true → GivesOnly (specific_value t) (IsSpecific definitions target)

abbrev HeldPattern : Type 0
HeldPattern = (p : Pattern) × SpecificPattern p

abbrev HeldTemplate : Type 0
HeldTemplate = (t : Template) × Specific t

-- fields that go to those of a record, and lack nothing
record AreFields (definitions : List Definition) (fs : List Field) (states : List (Option Value)) : Type 0 where
  go : go_to_fields definitions fs (map with_goes states) ≡ true
  are_whole : list_all has_value (map with_whole states) ≡ true

one-more : (definitions : List Definition) (f : Field) (fs : List Field) (v : Value) (rest : Outcome (List (Option Value))) → IsSpecific definitions (field_target definitions f) v
    → GivesOnly rest (AreFields definitions fs) → GivesOnly (before_fields v rest) (AreFields definitions (f ∷ fs))
one-more definitions f fs v (Yields states) is are = record {
  go = true-both (value_goes v definitions (field_target definitions f)) (go_to_fields definitions fs (map with_goes states)) is.goes are.go;
  are_whole = true-both (is_complete v) (list_all has_value (map with_whole states)) is.is_whole are.are_whole;
}
one-more definitions f fs v (Fails DynamicError) is are = tt
one-more definitions f fs v (Fails Unmet) is are = are

first-given : (definitions : List Definition) (f : Field) (fs : List Field) (first : Outcome Value) (others : List (Outcome Value)) → GivesOnly first (IsSpecific definitions (field_target definitions f))
    → GivesOnly (all_fields others) (AreFields definitions fs) → GivesOnly (all_fields (first ∷ others)) (AreFields definitions (f ∷ fs))
first-given definitions f fs (Yields v) others is are = one-more definitions f fs v (all_fields others) is are
first-given definitions f fs (Fails DynamicError) others is are = tt
first-given definitions f fs (Fails Unmet) others is are = is

fields-given : (definitions : List Definition) (fs : List Field) (parts : List HeldTemplate) → go_to_each definitions fs (map template_goes (map (λ t. t.0) parts)) ≡ true
    → GivesOnly (all_fields (map specific_value (map (λ t. t.0) parts))) (AreFields definitions fs)
fields-given definitions [] [] go = record { go = refl; are_whole = refl }
fields-given definitions [] (t ∷ parts) go = absurd (let e = go in cc)
fields-given definitions (f ∷ fs) [] go = absurd (let e = go in cc)
fields-given definitions (f ∷ fs) (t ∷ parts) go =
    let p = and_parts (template_goes t.0 definitions (field_target definitions f)) (go_to_each definitions fs (map template_goes (map (λ t. t.0) parts))) go in
    first-given definitions f fs (specific_value t.0) (map specific_value (map (λ t. t.0) parts)) (t.1 definitions (field_target definitions f) p.0) (fields-given definitions fs parts p.1)

record-given : (definitions : List Definition) (target : Target) (at : ℕ) (fields : Outcome (List (Option Value))) → wants (type.Record at) target.data_type ≡ true
    → GivesOnly fields (AreFields definitions (fields_at definitions at)) → GivesOnly (record_with at fields) (IsSpecific definitions target)
record-given definitions target at (Yields states) wanted are = record-specific definitions target at states wanted are.go are.are_whole
record-given definitions target at (Fails DynamicError) wanted are = tt
record-given definitions target at (Fails Unmet) wanted are = are

abbrev SpecificLevel : level.Pattern-F Pattern Template → Type 0
SpecificLevel x = (definitions : List Definition) (target : Target) → pattern_goes (roll-Pattern x) definitions target ≡ true
    → GivesOnly (specific_step (fold.map-Pattern Pattern Template (Outcome Value) (Outcome Value) specific_value_of_pattern specific_value x)) (IsSpecific definitions target)

pattern-specific : (y : level.Pattern-F HeldPattern HeldTemplate) → SpecificLevel (fold.map-Pattern HeldPattern HeldTemplate Pattern Template (λ p. p.0) (λ t. t.0) y)
pattern-specific (level.Pattern-F.Value v) = λ definitions target goes.
    let p = and_parts (value_goes v definitions (target_of target.data_type)) (is_complete v) (sym (goes-of-pattern (level.Pattern-F.Value v) definitions target) ∙ goes) in
    record { goes = weaker-goes definitions v target.data_type target.optional p.0; is_whole = p.1 }
pattern-specific level.Pattern-F.Any = λ definitions target goes. tt
pattern-specific level.Pattern-F.AnyOrOmit = λ definitions target goes. tt
pattern-specific level.Pattern-F.Omit = λ definitions target goes.
    omit-specific definitions target (sym (goes-of-pattern level.Pattern-F.Omit definitions target) ∙ goes)
pattern-specific (level.Pattern-F.Complement parts) = λ definitions target goes. tt
pattern-specific (level.Pattern-F.List parts) = λ definitions target goes. tt
pattern-specific (level.Pattern-F.Range low high) = λ definitions target goes. tt
pattern-specific (level.Pattern-F.Record at parts) = λ definitions target goes.
    let x : level.Pattern-F Pattern Template = level.Pattern-F.Record at (map (λ t. t.0) parts) in
    let p = and_parts (wants (type.Record at) target.data_type) (go_to_each definitions (fields_at definitions at) (map template_goes (map (λ t. t.0) parts))) (sym (goes-of-pattern x definitions target) ∙ goes) in
    record-given definitions target at (all_fields (map specific_value (map (λ t. t.0) parts))) p.0 (fields-given definitions (fields_at definitions at) parts p.1)

chosen-specific : (definitions : List Definition) (target : Target) (b : Bool) (o : Outcome Value) → GivesOnly o (IsSpecific definitions target)
    → GivesOnly (if b then dynamic_error else o) (IsSpecific definitions target)
chosen-specific definitions target true o is = tt
chosen-specific definitions target false o is = is

template-specific : (t : Template) → SpecificPattern t.pattern → Specific t
template-specific t specific definitions target goes =
    let p = and_parts (pattern_goes t.pattern definitions target) (not t.ifpresent || target.optional) (sym (goes-of-template t definitions target) ∙ goes) in
    subst (λ o. GivesOnly o (IsSpecific definitions target)) (sym (fold.fold_out-Template (Outcome Value) (Outcome Value) specific_step specific_template_step t))
    (chosen-specific definitions target t.ifpresent (specific_value_of_pattern t.pattern) (specific definitions target p.0))

pub specific_goes : (t : Template) → Specific t
specific_goes = fold.ind-Template SpecificPattern Specific (λ x y is definitions target goes.
    subst (λ o. GivesOnly o (IsSpecific definitions target)) (sym (fold.fold-roll-Pattern (Outcome Value) (Outcome Value) specific_step specific_template_step x))
    (subst SpecificLevel is (pattern-specific y) definitions target goes)) (λ x y is.
    template-specific (roll-Template x) (subst (λ (z : level.Template-F Pattern Template). SpecificPattern z.pattern) is y.pattern.1))

-- ---- messages

pub message_sent : (scope : Scope) (reading : Reading) → IsWhole scope → FieldsDiffer scope.definitions → ParametersKnown scope.definitions → FitsIn scope reading → HasAll scope reading
    → (passing : Passing) (otherwise : Judgement) (message : MessageTemplate) → check_message scope passing otherwise message ≡ []
    → (of : DataType) → (type_of_message scope passing otherwise message).typing ≡ typing.Known of
    → GivesOnly (outcome_and_then specific_value (template_wanted message.template reading (Some of))) (IsSpecific scope.definitions (target_of (Some of)))
message_sent scope reading whole differ known fit all passing otherwise message nothing of is =
    let judged : Judgement = type_of_message scope passing otherwise message in
    let front : List Rule = check_type_name scope message.type_name ++ judged.broken in
    let inside : template message.template scope (target_of (Some of)) ≡ [] =
    subst (λ t. template message.template scope (target_of (type_known t)) ≡ []) is (nothing-rest front (template message.template scope (target_of (type_known judged.typing))) nothing) in
    only-then (λ p. template_goes p scope.definitions (target_of (Some of)) ≡ true) (IsSpecific scope.definitions (target_of (Some of))) specific_value (template_wanted message.template reading (Some of))
    (only-of (λ p. template_goes p scope.definitions (target_of (Some of)) ≡ true) (template_wanted message.template reading (Some of))
    (templates_met message.template scope reading whole differ known fit all of false inside) (templates_typed message.template scope reading whole differ fit of false inside))
    (λ p goes. specific_goes p scope.definitions (target_of (Some of)) goes)
