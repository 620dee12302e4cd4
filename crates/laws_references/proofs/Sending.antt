-- The specific value of a template refers only to what the template refers to.
use Rattle.std.proofs.Common.{ℕ, Bool, true, false, List, [], ◌∷◌, map, Option, Some, if◌then◌else◌, sym, subst}
use Rattle.std.specs.List.{All, flat_map}
use Rattle.std.proofs.lemmas.List.Elements.{All-cons, All-head, All-nil, All-tail}
use Rattle.ttcn_syntax.specs.declared.tree.template.Template as tree
use Rattle.check_scope.specs.declared.types.DataType.{DataType}
use Rattle.laws_references.proofs.Expressions.{Gives}
use Rattle.laws_references.proofs.Templates.{LevelPattern, PatternRefersTo, references_in_pattern, template-gives, template-out}
use Rattle.laws_references.proofs.Values.{StateRefersTo, flat-each, map-each, omit-refers, record-refers}
use Rattle.laws_references.specs.References as references
use Rattle.laws_references.specs.References.{ReadingRefersTo, RefersTo, TemplateRefersTo, pattern_step, references_in_template}
use Rattle.laws_steps.proofs.Outcomes.{then-yields}
use Rattle.value_types.specs.Matching.{all_fields, before_fields, record_with, specific_step, specific_template_step, specific_value, specific_value_of_pattern}
use Rattle.value_types.specs.Outcomes.{Fails, IfYields, Outcome, Yields, dynamic_error, outcome_and_then}
use Rattle.value_types.specs.Readings.{Reading}
use Rattle.value_types.specs.Templates.{template_wanted}
use Rattle.value_types.specs.declared.template.Pattern.{Pattern, roll-Pattern}
use Rattle.value_types.specs.declared.template.Pattern.TheFolds as fold
use Rattle.value_types.specs.declared.template.Pattern.TheOpen as level
use Rattle.value_types.specs.declared.template.Template.{Template, roll-Template}
use Rattle.value_types.specs.declared.value.ComponentId.{ComponentId}
use Rattle.value_types.specs.declared.value.Value.{Value}

module _ (P : ComponentId → Type 0) where
  -- ---- what a pattern refers to

  parts-out : (parts : List Template) → All P (flat_map (λ part. part) (map references_in_template parts)) → All (TemplateRefersTo P) parts
  parts-out parts all = map-each (All P) references_in_template parts (flat-each P (λ part. part) (map references_in_template parts) all)

  pattern-out : (x : level.Pattern-F Pattern Template) → All P (pattern_step (fold.map-Pattern Pattern Template (List ComponentId) (List ComponentId) references_in_pattern references_in_template x)) → LevelPattern P x
  pattern-out (level.Pattern-F.Value v) is = is
  pattern-out (level.Pattern-F.Complement parts) is = parts-out parts is
  pattern-out (level.Pattern-F.List parts) is = parts-out parts is
  pattern-out (level.Pattern-F.Record at parts) is = parts-out parts is
  pattern-out (level.Pattern-F.Range low high) is = tt
  pattern-out level.Pattern-F.Any is = tt
  pattern-out level.Pattern-F.AnyOrOmit is = tt
  pattern-out level.Pattern-F.Omit is = tt

  pattern-level : (x : level.Pattern-F Pattern Template) → PatternRefersTo P (roll-Pattern x) → LevelPattern P x
  pattern-level x is = pattern-out x (subst (All P) (fold.fold-roll-Pattern (List ComponentId) (List ComponentId) pattern_step references.template_step x) is)

  -- ---- specific values

  abbrev PatternGives : Pattern → Type 0
  PatternGives p = PatternRefersTo P p → Gives P (specific_value_of_pattern p)

  abbrev SpecificGives : Template → Type 0
  SpecificGives t = TemplateRefersTo P t → Gives P (specific_value t)

  abbrev HeldPattern : Type 0
  HeldPattern = (p : Pattern) × PatternGives p

  abbrev HeldTemplate : Type 0
  HeldTemplate = (t : Template) × SpecificGives t

  abbrev States : Outcome (List (Option Value)) → Type 0
  States o = IfYields o (All (StateRefersTo P))

  one-before : (v : Value) (rest : Outcome (List (Option Value))) → RefersTo P v → States rest → States (before_fields v rest)
  one-before v (Yields fields) is all = All-cons (StateRefersTo P) (Some v) fields is all
  one-before v (Fails why) is all = tt

  first-gives : (first : Outcome Value) (others : List (Outcome Value)) → Gives P first → States (all_fields others) → States (all_fields (first ∷ others))
  first-gives (Yields v) others is all = one-before v (all_fields others) is all
  first-gives (Fails why) others is all = tt

  fields-give : (parts : List HeldTemplate) → All (TemplateRefersTo P) (map (λ t. t.0) parts) → States (all_fields (map specific_value (map (λ t. t.0) parts)))
  fields-give [] all = All-nil (StateRefersTo P)
  fields-give (t ∷ parts) all =
      first-gives (specific_value t.0) (map specific_value (map (λ t. t.0) parts)) (t.1 (All-head (TemplateRefersTo P) t.0 (map (λ t. t.0) parts) all))
      (fields-give parts (All-tail (TemplateRefersTo P) t.0 (map (λ t. t.0) parts) all))

  record-gives : (at : ℕ) (fields : Outcome (List (Option Value))) → States fields → Gives P (record_with at fields)
  record-gives at (Yields fields) all = record-refers P at fields all
  record-gives at (Fails why) all = tt

  abbrev SpecificLevel : level.Pattern-F Pattern Template → Type 0
  SpecificLevel x = LevelPattern P x → Gives P (specific_step (fold.map-Pattern Pattern Template (Outcome Value) (Outcome Value) specific_value_of_pattern specific_value x))

  pattern-held : (y : level.Pattern-F HeldPattern HeldTemplate) → SpecificLevel (fold.map-Pattern HeldPattern HeldTemplate Pattern Template (λ p. p.0) (λ t. t.0) y)
  pattern-held (level.Pattern-F.Value v) = λ is. is
  pattern-held level.Pattern-F.Omit = λ is. omit-refers P
  pattern-held (level.Pattern-F.Record at parts) = λ is. record-gives at (all_fields (map specific_value (map (λ t. t.0) parts))) (fields-give parts is)
  pattern-held level.Pattern-F.Any = λ is. tt
  pattern-held level.Pattern-F.AnyOrOmit = λ is. tt
  pattern-held (level.Pattern-F.Complement parts) = λ is. tt
  pattern-held (level.Pattern-F.List parts) = λ is. tt
  pattern-held (level.Pattern-F.Range low high) = λ is. tt

  specific-if : (b : Bool) (o : Outcome Value) → Gives P o → Gives P (if b then dynamic_error else o)
  specific-if true o is = tt
  specific-if false o is = is

  template-held : (t : Template) → PatternGives t.pattern → SpecificGives t
  template-held t gives is =
      subst (Gives P) (sym (fold.fold_out-Template (Outcome Value) (Outcome Value) specific_step specific_template_step t))
      (specific-if t.ifpresent (specific_value_of_pattern t.pattern) (gives (template-out P t is)))

  pub specific-gives : (t : Template) → SpecificGives t
  specific-gives = fold.ind-Template PatternGives SpecificGives (λ x y is refers.
      subst (Gives P) (sym (fold.fold-roll-Pattern (Outcome Value) (Outcome Value) specific_step specific_template_step x))
      (subst SpecificLevel is (pattern-held y) (pattern-level x refers))) (λ x y is.
      template-held (roll-Template x) (subst (λ (z : level.Template-F Pattern Template). PatternGives z.pattern) is y.pattern.1))

  -- the value that is sent for a template of the text
  pub sent-gives : (t : tree.Template) (reading : Reading) → ReadingRefersTo P reading → (wanted : Option DataType) → Gives P (outcome_and_then specific_value (template_wanted t reading wanted))
  sent-gives t reading is wanted = then-yields (TemplateRefersTo P) (RefersTo P) specific_value (template_wanted t reading wanted) specific-gives (template-gives P t reading is wanted)
