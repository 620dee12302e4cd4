-- What templates match, form by form.
use Rattle.std.proofs.Common.{◌≡◌, ◌≢◌, false, not, ◌&&◌, ◌||◌, List, [], ◌∷◌, map, length, suc, Option, refl, sym, ap, ◌∙◌}
use Rattle.std.proofs.lemmas.Bool.{and_right}
use Rattle.std.specs.List.{list_any}
use Rattle.value_types.specs.Matching.{Matcher, is_match, is_match_of_pattern, match_fields, matches_field, pattern_step, template_step}
use Rattle.value_types.specs.Values.{is_omit}
use Rattle.value_types.specs.declared.template.Pattern.TheFolds.{fold-roll-Pattern}
use Rattle.value_types.specs.declared.template.Pattern.TheOpen.{Pattern-F}
use Rattle.value_types.specs.declared.template.Pattern.TheVariants as form
use Rattle.value_types.specs.declared.template.Template.{Template}
use Rattle.value_types.specs.declared.value.Value.{Value}

-- ---- fields of another number

pub other_length : (parts : List Template) (fields : List (Option Value)) → length parts ≢ length fields → match_fields (map is_match parts) fields ≡ false
other_length [] [] other = absurd (other refl)
other_length [] (field ∷ fields) other = refl
other_length (part ∷ parts) [] other = refl
other_length (part ∷ parts) (field ∷ fields) other =
    and_right (matches_field (is_match part) field) (match_fields (map is_match parts) fields) (other_length parts fields (λ same. other (ap suc same)))

-- ---- lists of templates

-- whether one of the templates matches
any-of-all : (parts : List Template) (v : Value) → list_any (λ m. m v) (map is_match parts) ≡ list_any (λ part. is_match part v) parts
any-of-all [] v = refl
any-of-all (part ∷ parts) v = ap (λ b. is_match part v || b) (any-of-all parts v)

pub match-of-complement : (parts : List Template) (v : Value) → is_match_of_pattern (form.Complement parts) v ≡ (not (is_omit v) && not (list_any (λ part. is_match part v) parts))
match-of-complement parts v =
    ap (λ (m : Matcher). m v) (ap is_match_of_pattern (sym (form.rolls-Complement parts)) ∙ fold-roll-Pattern Matcher Matcher pattern_step template_step (Pattern-F.Complement parts))
    ∙ ap (λ b. not (is_omit v) && not b) (any-of-all parts v)

pub match-of-list : (parts : List Template) (v : Value) → is_match_of_pattern (form.List parts) v ≡ list_any (λ part. is_match part v) parts
match-of-list parts v =
    ap (λ (m : Matcher). m v) (ap is_match_of_pattern (sym (form.rolls-List parts)) ∙ fold-roll-Pattern Matcher Matcher pattern_step template_step (Pattern-F.List parts))
    ∙ any-of-all parts v

-- what a template that names several matches
pub ruleset list_forms = (match-of-complement, match-of-list)
