-- What stands where a template of a type is wanted refers only to what is read, and so does the specific value of a template.
use Rattle.std.proofs.Common.{ℕ, ℤ, Bool, true, false, List, [], ◌∷◌, map, length, nat_eq, bytes_eq, Option, Some, None, IfSome, if◌then◌else◌, sym, subst}
use Rattle.std.specs.List.{All, find, flat_map, zip}
use Rattle.std.proofs.lemmas.List.Elements.{All-cons, All-map, All-nil}
use Rattle.ttcn_syntax.specs.declared.tree.definition.Field.{Field}
use Rattle.ttcn_syntax.specs.declared.tree.definition.Parameter.{Parameter}
use Rattle.ttcn_syntax.specs.declared.tree.expression.Expr.{Expr}
use Rattle.ttcn_syntax.specs.declared.tree.template.Bound.{Bound}
use Rattle.ttcn_syntax.specs.declared.tree.template.FieldTemplate.{FieldTemplate}
use Rattle.ttcn_syntax.specs.declared.tree.template.Template as tree
use Rattle.ttcn_syntax.specs.declared.tree.template.TemplateBody.{TemplateBody}
use Rattle.ttcn_syntax.specs.declared.tree.template.TemplateBody.TheFolds.{fold-roll-FieldTemplate, fold-roll-Template, fold-roll-TemplateBody, ind-Template, map-FieldTemplate, map-Template, map-TemplateBody}
use Rattle.ttcn_syntax.specs.declared.tree.template.TemplateBody.TheOpen.{FieldTemplate-F, Template-F, TemplateBody-F}
use Rattle.ttcn_syntax.specs.declared.tree.value.Value as written
use Rattle.check_rules.specs.Calls.{parameters_of}
use Rattle.check_scope.specs.Names.{fields_at, kind_at, module_names, resolved}
use Rattle.check_scope.specs.declared.types.DataType.{DataType}
use Rattle.laws_references.proofs.Expressions.{expression-gives}
use Rattle.laws_references.proofs.Literals.{if-unmet, value-gives}
use Rattle.laws_references.proofs.Values.{all-of, each-gives, map-any, then-any, zip-last}
use Rattle.laws_references.specs.References.{ReadingRefersTo, RefersTo, TemplateRefersTo, pattern_step, references_in_template}
use Rattle.laws_references.specs.References as references
use Rattle.laws_steps.proofs.Found.{found-each}
use Rattle.laws_steps.proofs.Outcomes.{map-yields, then-yields}
use Rattle.semantics.proofs.Pairs.{All-flat, All-more}
use Rattle.value_types.specs.Evaluation.{value_of}
use Rattle.value_types.specs.Literals.{type_of_field, wanted_record}
use Rattle.value_types.specs.Outcomes.{Fails, IfYields, Outcome, Yields, dynamic_error, each, outcome_map}
use Rattle.value_types.specs.Readings.{Reading}
use Rattle.value_types.specs.Templates.{Wanted, argument, arguments, as_pattern, body_step, body_wanted, by_name, element, element_named, field_template, field_template_step, in_order, parts_of, plain, record_at, template_called, template_named, template_of_expression, template_of_name, template_of_range, template_step, template_wanted, value_of_bound, with_ifpresent}
use Rattle.value_types.specs.Values.{is_complete}
use Rattle.value_types.specs.declared.template.Pattern.{Pattern, fold-Pattern, roll-Pattern}
use Rattle.value_types.specs.declared.template.Pattern.TheFolds as fold
use Rattle.value_types.specs.declared.template.Pattern.TheOpen as level
use Rattle.value_types.specs.declared.template.Pattern.TheVariants as pattern
use Rattle.value_types.specs.declared.template.Template.{Template}
use Rattle.value_types.specs.declared.value.ComponentId.{ComponentId}
use Rattle.value_types.specs.declared.value.Value.{Value}

-- ---- templates by their patterns

-- the components that the values in a pattern refer to
abbrev pub references_in_pattern : Pattern → List ComponentId
references_in_pattern = fold-Pattern (List ComponentId) (List ComponentId) pattern_step references.template_step

module _ (P : ComponentId → Type 0) where
  abbrev pub PatternRefersTo : Pattern → Type 0
  PatternRefersTo p = All P (references_in_pattern p)

  -- one level of a pattern refers only to such components
  abbrev pub LevelPattern : level.Pattern-F Pattern Template → Type 0
  LevelPattern (level.Pattern-F.Value v) = RefersTo P v
  LevelPattern (level.Pattern-F.Complement parts) = All (TemplateRefersTo P) parts
  LevelPattern (level.Pattern-F.List parts) = All (TemplateRefersTo P) parts
  LevelPattern (level.Pattern-F.Record at parts) = All (TemplateRefersTo P) parts
  LevelPattern _ = Unit {0}

  parts-in : (parts : List Template) → All (TemplateRefersTo P) parts → All P (flat_map (λ part. part) (map references_in_template parts))
  parts-in parts all = All-flat P (λ part. part) (map references_in_template parts) (All-map (All P) references_in_template parts all)

  pattern-in : (x : level.Pattern-F Pattern Template) → LevelPattern x → All P (pattern_step (fold.map-Pattern Pattern Template (List ComponentId) (List ComponentId) references_in_pattern references_in_template x))
  pattern-in (level.Pattern-F.Value v) is = is
  pattern-in (level.Pattern-F.Complement parts) is = parts-in parts is
  pattern-in (level.Pattern-F.List parts) is = parts-in parts is
  pattern-in (level.Pattern-F.Record at parts) is = parts-in parts is
  pattern-in (level.Pattern-F.Range low high) is = All-nil P
  pattern-in level.Pattern-F.Any is = All-nil P
  pattern-in level.Pattern-F.AnyOrOmit is = All-nil P
  pattern-in level.Pattern-F.Omit is = All-nil P

  pub pattern-rolled : (x : level.Pattern-F Pattern Template) → LevelPattern x → PatternRefersTo (roll-Pattern x)
  pattern-rolled x is = subst (All P) (sym (fold.fold-roll-Pattern (List ComponentId) (List ComponentId) pattern_step references.template_step x)) (pattern-in x is)

  template-in : (t : Template) → PatternRefersTo t.pattern → TemplateRefersTo P t
  template-in t is = subst (All P) (sym (fold.fold_out-Template (List ComponentId) (List ComponentId) pattern_step references.template_step t)) is

  pub template-out : (t : Template) → TemplateRefersTo P t → PatternRefersTo t.pattern
  template-out t is = subst (All P) (fold.fold_out-Template (List ComponentId) (List ComponentId) pattern_step references.template_step t) is

  plain-refers : (p : Pattern) → PatternRefersTo p → TemplateRefersTo P (plain p)
  plain-refers p is = template-in (plain p) is

  value-pattern : (v : Value) → RefersTo P v → TemplateRefersTo P (plain (pattern.Value v))
  value-pattern v is = plain-refers (pattern.Value v) (subst PatternRefersTo (pattern.rolls-Value v) (pattern-rolled (level.Pattern-F.Value v) is))

  any-pattern : TemplateRefersTo P (plain pattern.Any)
  any-pattern = plain-refers pattern.Any (subst PatternRefersTo pattern.rolls-Any (pattern-rolled level.Pattern-F.Any tt))

  any-or-omit-pattern : TemplateRefersTo P (plain pattern.AnyOrOmit)
  any-or-omit-pattern = plain-refers pattern.AnyOrOmit (subst PatternRefersTo pattern.rolls-AnyOrOmit (pattern-rolled level.Pattern-F.AnyOrOmit tt))

  omit-pattern : TemplateRefersTo P (plain pattern.Omit)
  omit-pattern = plain-refers pattern.Omit (subst PatternRefersTo pattern.rolls-Omit (pattern-rolled level.Pattern-F.Omit tt))

  complement-pattern : (ps : List Template) → All (TemplateRefersTo P) ps → TemplateRefersTo P (plain (pattern.Complement ps))
  complement-pattern ps all = plain-refers (pattern.Complement ps) (subst PatternRefersTo (pattern.rolls-Complement ps) (pattern-rolled (level.Pattern-F.Complement ps) all))

  list-pattern : (ps : List Template) → All (TemplateRefersTo P) ps → TemplateRefersTo P (plain (pattern.List ps))
  list-pattern ps all = plain-refers (pattern.List ps) (subst PatternRefersTo (pattern.rolls-List ps) (pattern-rolled (level.Pattern-F.List ps) all))

  range-pattern : (low high : Option ℤ) → TemplateRefersTo P (plain (pattern.Range low high))
  range-pattern low high = plain-refers (pattern.Range low high) (subst PatternRefersTo (pattern.rolls-Range low high) (pattern-rolled (level.Pattern-F.Range low high) tt))

  record-pattern : (at : ℕ) (ps : List Template) → All (TemplateRefersTo P) ps → TemplateRefersTo P (plain (pattern.Record at ps))
  record-pattern at ps all = plain-refers (pattern.Record at ps) (subst PatternRefersTo (pattern.rolls-Record at ps) (pattern-rolled (level.Pattern-F.Record at ps) all))

  -- ---- what is given

  abbrev pub GivesTemplate : Outcome Template → Type 0
  GivesTemplate o = IfYields o (TemplateRefersTo P)

  abbrev GivesParts : Outcome (List Template) → Type 0
  GivesParts o = IfYields o (All (TemplateRefersTo P))

  -- it refers only to what is read
  abbrev pub TemplateRead : Wanted → Type 0
  TemplateRead given = (reading : Reading) → ReadingRefersTo P reading → (wanted : Option DataType) → GivesTemplate (given reading wanted)

  abbrev NamedRead : List ℕ × Wanted → Type 0
  NamedRead e = TemplateRead e.1

  as-if : (v : Value) (b : Bool) → RefersTo P v → GivesTemplate (if b then Yields (plain (pattern.Value v)) else dynamic_error)
  as-if v true is = value-pattern v is
  as-if v false is = tt

  module _ (reading : Reading) (is : ReadingRefersTo P reading) where
    -- ---- named templates

    pub arguments-give : (parameters : List Parameter) (given : List written.Value) → IfYields (arguments reading parameters given) (All (RefersTo P))
    arguments-give parameters given =
        if-unmet (All (RefersTo P)) (nat_eq (length given) (length parameters)) (each (map (argument reading) (zip parameters given)))
        (each-gives (RefersTo P) (map (argument reading) (zip parameters given))
        (All-map (λ o. IfYields o (RefersTo P)) (argument reading) (zip parameters given) (all-of (λ pair. IfYields (argument reading pair) (RefersTo P)) one (zip parameters given))))
      where
        one : (pair : Parameter × written.Value) → IfYields (argument reading pair) (RefersTo P)
        one pair = value-gives P pair.1 reading is (resolved (module_names reading.definitions) pair.0.type_name)

    called-gives : (at : Option ℕ) (given : List written.Value) → GivesTemplate (template_called reading at given)
    called-gives None given = tt
    called-gives (Some at) given =
        then-yields (All (RefersTo P)) (TemplateRefersTo P) (reading.templates at) (arguments reading (parameters_of (kind_at reading.definitions at)) given)
        (is.templates at) (arguments-give (parameters_of (kind_at reading.definitions at)) given)

    expression-template : (e : Expr) (at : Option ℕ) → GivesTemplate (template_of_expression reading e at)
    expression-template e None =
        then-yields (RefersTo P) (TemplateRefersTo P) as_pattern (value_of e reading) (λ v of. as-if v (is_complete v) of) (expression-gives P e reading is)
    expression-template e (Some at) = called-gives (Some at) []

    range-gives : (low high : Bound) → GivesTemplate (template_of_range reading low high)
    range-gives low high =
        then-any (TemplateRefersTo P) (λ l. outcome_map (λ h. plain (pattern.Range l h)) (value_of_bound reading high)) (value_of_bound reading low)
        (λ l. map-any (TemplateRefersTo P) (λ h. plain (pattern.Range l h)) (value_of_bound reading high) (range-pattern l))

    -- ---- parts

    parts-give : (wanted : Option DataType) (parts : List Wanted) → All TemplateRead parts → GivesParts (parts_of reading wanted parts)
    parts-give wanted parts all =
        each-gives (TemplateRefersTo P) (map (λ part. part reading wanted) parts)
        (All-map GivesTemplate (λ (part : Wanted). part reading wanted) parts
        (All-more TemplateRead (λ part. GivesTemplate (part reading wanted)) (λ part refers. refers reading is wanted) parts all))

    element-gives : (pair : Field × Wanted) → TemplateRead pair.1 → GivesTemplate (element reading pair)
    element-gives pair refers = refers reading is (type_of_field reading pair.0)

    ordered-give : (fields : List Field) (elements : List Wanted) → All TemplateRead elements → GivesParts (in_order reading fields elements)
    ordered-give fields elements all =
        if-unmet (All (TemplateRefersTo P)) (nat_eq (length elements) (length fields)) (each (map (element reading) (zip fields elements)))
        (each-gives (TemplateRefersTo P) (map (element reading) (zip fields elements))
        (All-map GivesTemplate (element reading) (zip fields elements)
        (All-more (λ (pair : Field × Wanted). TemplateRead pair.1) (λ pair. GivesTemplate (element reading pair)) element-gives (zip fields elements) (zip-last TemplateRead fields elements all))))

    named-gives : (f : Field) (found : Option (List ℕ × Wanted)) → IfSome found NamedRead → GivesTemplate (element_named reading f found)
    named-gives f None refers = tt
    named-gives f (Some found) refers = element-gives (f, found.1) refers

    names-give : (fields : List Field) (elements : List (List ℕ × Wanted)) → All NamedRead elements → GivesParts (by_name reading fields elements)
    names-give fields elements all =
        each-gives (TemplateRefersTo P) (map (λ field. element_named reading field (find (λ e. bytes_eq e.0 field.name) elements)) fields)
        (All-map GivesTemplate (λ (field : Field). element_named reading field (find (λ e. bytes_eq e.0 field.name) elements)) fields
        (all-of (λ (field : Field). GivesTemplate (element_named reading field (find (λ e. bytes_eq e.0 field.name) elements))) one fields))
      where
        one : (f : Field) → GivesTemplate (element_named reading f (find (λ e. bytes_eq e.0 f.name) elements))
        one f = named-gives f (find (λ e. bytes_eq e.0 f.name) elements) (found-each NamedRead (λ e. bytes_eq e.0 f.name) elements all)

    record-gives : (wanted : Outcome ℕ) (parts : ℕ → Outcome (List Template)) → ((at : ℕ) → GivesParts (parts at)) → GivesTemplate (record_at wanted parts)
    record-gives (Yields at) parts give = map-yields (All (TemplateRefersTo P)) (TemplateRefersTo P) (λ ps. plain (pattern.Record at ps)) (parts at) (record-pattern at) (give at)
    record-gives (Fails why) parts give = tt

  -- ---- templates

  abbrev HeldBody : Type 0
  HeldBody = (b : TemplateBody) × TemplateRead (body_wanted b)

  abbrev HeldField : Type 0
  HeldField = (f : FieldTemplate) × NamedRead (field_template f)

  abbrev Held : Type 0
  Held = (t : tree.Template) × TemplateRead (template_wanted t)

  all-held : (es : List Held) → All TemplateRead (map template_wanted (map (λ e. e.0) es))
  all-held [] = All-nil TemplateRead
  all-held (e ∷ es) = All-cons TemplateRead (template_wanted e.0) (map template_wanted (map (λ e. e.0) es)) e.1 (all-held es)

  all-named : (es : List HeldField) → All NamedRead (map field_template (map (λ e. e.0) es))
  all-named [] = All-nil NamedRead
  all-named (e ∷ es) = All-cons NamedRead (field_template e.0) (map field_template (map (λ e. e.0) es)) e.1 (all-named es)

  abbrev LevelBody : TemplateBody-F TemplateBody FieldTemplate tree.Template → Type 0
  LevelBody x = TemplateRead (body_step (map-TemplateBody TemplateBody FieldTemplate tree.Template Wanted (List ℕ × Wanted) Wanted body_wanted field_template template_wanted x))

  body-held : (y : TemplateBody-F HeldBody HeldField Held) → LevelBody (map-TemplateBody HeldBody HeldField Held TemplateBody FieldTemplate tree.Template (λ b. b.0) (λ f. f.0) (λ t. t.0) y)
  body-held TemplateBody-F.Any = λ reading is wanted. any-pattern
  body-held TemplateBody-F.AnyOrOmit = λ reading is wanted. any-or-omit-pattern
  body-held TemplateBody-F.Omit = λ reading is wanted. omit-pattern
  body-held (TemplateBody-F.Complement parts) = λ reading is wanted.
      map-yields (All (TemplateRefersTo P)) (TemplateRefersTo P) (λ ps. plain (pattern.Complement ps)) (parts_of reading wanted (map template_wanted (map (λ p. p.0) parts)))
      complement-pattern (parts-give reading is wanted (map template_wanted (map (λ p. p.0) parts)) (all-held parts))
  body-held (TemplateBody-F.List parts) = λ reading is wanted.
      map-yields (All (TemplateRefersTo P)) (TemplateRefersTo P) (λ ps. plain (pattern.List ps)) (parts_of reading wanted (map template_wanted (map (λ p. p.0) parts)))
      list-pattern (parts-give reading is wanted (map template_wanted (map (λ p. p.0) parts)) (all-held parts))
  body-held (TemplateBody-F.Range low high) = λ reading is wanted. range-gives reading is low high
  body-held (TemplateBody-F.Call call) = λ reading is wanted. called-gives reading is (template_of_name reading (Some call.name)) call.arguments
  body-held (TemplateBody-F.Expr e) = λ reading is wanted. expression-template reading is e (template_named reading e)
  body-held (TemplateBody-F.Listed parts) = λ reading is wanted.
      record-gives reading is (wanted_record wanted) (λ at. in_order reading (fields_at reading.definitions at) (map template_wanted (map (λ e. e.0) parts)))
      (λ at. ordered-give reading is (fields_at reading.definitions at) (map template_wanted (map (λ e. e.0) parts)) (all-held parts))
  body-held (TemplateBody-F.Assigned parts) = λ reading is wanted.
      record-gives reading is (wanted_record wanted) (λ at. by_name reading (fields_at reading.definitions at) (map field_template (map (λ e. e.0) parts)))
      (λ at. names-give reading is (fields_at reading.definitions at) (map field_template (map (λ e. e.0) parts)) (all-named parts))

  abbrev LevelField : FieldTemplate-F TemplateBody FieldTemplate tree.Template → Type 0
  LevelField x = NamedRead (field_template_step (map-FieldTemplate TemplateBody FieldTemplate tree.Template Wanted (List ℕ × Wanted) Wanted body_wanted field_template template_wanted x))

  field-held : (y : FieldTemplate-F HeldBody HeldField Held) → LevelField (map-FieldTemplate HeldBody HeldField Held TemplateBody FieldTemplate tree.Template (λ b. b.0) (λ f. f.0) (λ t. t.0) y)
  field-held y = y.template.1

  abbrev LevelTemplate : Template-F TemplateBody FieldTemplate tree.Template → Type 0
  LevelTemplate x = TemplateRead (template_step (map-Template TemplateBody FieldTemplate tree.Template Wanted (List ℕ × Wanted) Wanted body_wanted field_template template_wanted x))

  template-held : (y : Template-F HeldBody HeldField Held) → LevelTemplate (map-Template HeldBody HeldField Held TemplateBody FieldTemplate tree.Template (λ b. b.0) (λ f. f.0) (λ t. t.0) y)
  template-held y = λ reading is wanted.
      map-yields (TemplateRefersTo P) (TemplateRefersTo P) (with_ifpresent y.ifpresent) (body_wanted y.body.0 reading wanted)
      (λ p of. template-in (with_ifpresent y.ifpresent p) (template-out p of)) (y.body.1 reading is wanted)

  pub template-gives : (t : tree.Template) → TemplateRead (template_wanted t)
  template-gives = ind-Template (λ b. TemplateRead (body_wanted b)) (λ f. NamedRead (field_template f)) (λ t. TemplateRead (template_wanted t)) (λ x y is.
      subst TemplateRead (sym (fold-roll-TemplateBody Wanted (List ℕ × Wanted) Wanted body_step field_template_step template_step x))
      (subst LevelBody is (body-held y))) (λ x y is.
      subst NamedRead (sym (fold-roll-FieldTemplate Wanted (List ℕ × Wanted) Wanted body_step field_template_step template_step x))
      (subst LevelField is (field-held y))) (λ x y is.
      subst TemplateRead (sym (fold-roll-Template Wanted (List ℕ × Wanted) Wanted body_step field_template_step template_step x))
      (subst LevelTemplate is (template-held y)))
