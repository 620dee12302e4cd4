-- When templates are equal, when a template matches a value (ES 201 873-1, 15 and annex B), and which value it stands for when it is sent (15.1).
use Rattle.std.specs.Prelude.{ℕ, ℤ, Bool, true, false, not, ◌&&◌, ◌||◌, List, [], ◌∷◌, Option, Some, None, nat_eq, int_lt, if◌then◌else◌}
use Rattle.std.specs.List.{list_any}
use Rattle.value_types.specs.Outcomes.{Fails, Outcome, Yields, dynamic_error}
use Rattle.value_types.specs.Values.{equal, integer, is_omit, record_of}
use Rattle.value_types.specs.contracts.template.PatternPartialEq.TheImpl as patterns
use Rattle.value_types.specs.contracts.template.TemplatePartialEq.TheImpl as templates
use Rattle.value_types.specs.declared.template.Pattern.{Pattern, fold-Pattern}
use Rattle.value_types.specs.declared.template.Template.{Template, fold-Template}
use Rattle.value_types.specs.declared.template.Pattern.TheOpen.{Pattern-F, Template-F}
use Rattle.value_types.specs.declared.value.Value.{Value}
use Rattle.value_types.specs.declared.value.Value.TheVariants as value

-- ---- equality

-- `==`, which is true of a template and itself alone
abbrev pub equal_template : Template → Template → Bool
equal_template = (templates.ghosts).eq

-- `==`, which is true of a pattern and itself alone
abbrev pub equal_pattern : Pattern → Pattern → Bool
equal_pattern = (patterns.ghosts).eq

-- ---- matching

-- the values that something matches: an omitted field stands for itself
abbrev pub Matcher : Type 0
Matcher = Value → Bool

-- the lower end of a range bounds a number: an infinite one bounds nothing
abbrev pub is_above : Option ℤ → ℤ → Bool
is_above None n = true
is_above (Some low) n = not (int_lt n low)

-- the upper end of a range bounds a number: an infinite one bounds nothing
abbrev pub is_below : Option ℤ → ℤ → Bool
is_below None n = true
is_below (Some high) n = not (int_lt high n)

-- a number is in a range, to which its ends belong: what is no integer is in none
abbrev pub in_range : Option ℤ → Option ℤ → Option ℤ → Bool
in_range low high None = false
in_range low high (Some n) = is_above low n && is_below high n

-- a field that has no value is matched by nothing
abbrev pub matches_field : Matcher → Option Value → Bool
matches_field part None = false
matches_field part (Some v) = part v

-- field by field
abbrev pub match_fields : List Matcher → List (Option Value) → Bool
match_fields [] [] = true
match_fields (part ∷ parts) (field ∷ fields) = matches_field part field && match_fields parts fields
match_fields [] (field ∷ fields) = false
match_fields (part ∷ parts) [] = false

-- a record of the type at a position is matched field by field, and nothing else is
abbrev pub match_record : ℕ → List Matcher → Option (ℕ × List (Option Value)) → Bool
match_record at parts None = false
match_record at parts (Some found) = nat_eq at found.0 && match_fields parts found.1

-- the values that one level of a pattern matches, given those that its parts match
abbrev pub pattern_step : Pattern-F Matcher Matcher → Matcher
pattern_step (Pattern-F.Value w) v = equal w v
pattern_step Pattern-F.Any v = not (is_omit v)
pattern_step Pattern-F.AnyOrOmit v = true
pattern_step Pattern-F.Omit v = is_omit v
pattern_step (Pattern-F.Complement parts) v = not (is_omit v) && not (list_any (λ part. part v) parts)
pattern_step (Pattern-F.List parts) v = list_any (λ part. part v) parts
pattern_step (Pattern-F.Range low high) v = in_range low high (integer v)
pattern_step (Pattern-F.Record at parts) v = match_record at parts (record_of v)

-- the values that a template matches, given those that its pattern matches: `ifpresent` adds an omitted field
abbrev pub template_step : Template-F Matcher Matcher → Matcher
template_step t v = (t.ifpresent && is_omit v) || t.pattern v

-- a template matches a value
abbrev pub is_match : Template → Matcher
is_match = fold-Template Matcher Matcher pattern_step template_step

-- a pattern, which is a template without its `ifpresent`, matches a value
abbrev pub is_match_of_pattern : Pattern → Matcher
is_match_of_pattern = fold-Pattern Matcher Matcher pattern_step template_step

-- ---- sending

-- fields with a value before them, where the fields are given
abbrev pub before_fields : Value → Outcome (List (Option Value)) → Outcome (List (Option Value))
before_fields v (Fails why) = Fails why
before_fields v (Yields fields) = Yields (Some v ∷ fields)

-- the fields that values give, where each is given
abbrev pub all_fields : List (Outcome Value) → Outcome (List (Option Value))
all_fields [] = Yields []
all_fields (Fails why ∷ given) = Fails why
all_fields (Yields v ∷ given) = before_fields v (all_fields given)

-- the record of the type at a position with these fields, where they are given
abbrev pub record_with : ℕ → Outcome (List (Option Value)) → Outcome Value
record_with at (Fails why) = Fails why
record_with at (Yields fields) = Yields (value.Record at fields)

-- `omit` stands for an omitted field; what matches several values stands for none
abbrev pub specific_step : Pattern-F (Outcome Value) (Outcome Value) → Outcome Value
specific_step (Pattern-F.Value v) = Yields v
specific_step Pattern-F.Omit = Yields value.Omit
specific_step (Pattern-F.Record at parts) = record_with at (all_fields parts)
specific_step _ = dynamic_error

-- the value that a template stands for, given that of its pattern: with `ifpresent` it stands for none
abbrev pub specific_template_step : Template-F (Outcome Value) (Outcome Value) → Outcome Value
specific_template_step t = if t.ifpresent then dynamic_error else t.pattern

-- the specific value that a template stands for: sending one that stands for none is a dynamic error
abbrev pub specific_value : Template → Outcome Value
specific_value = fold-Template (Outcome Value) (Outcome Value) specific_step specific_template_step

-- the specific value that a pattern, a template without its `ifpresent`, stands for: sending one that stands for none is a dynamic error
abbrev pub specific_value_of_pattern : Pattern → Outcome Value
specific_value_of_pattern = fold-Pattern (Outcome Value) (Outcome Value) specific_step specific_template_step
