-- Members of objects, and what they give.
use Rattle.std.proofs.Common.{◌≡◌, ℕ, suc, ◌≤◌, Bool, true, false, bytes_eq, if◌then◌else◌, List, [], ◌∷◌, Option, Some, None, Ordering, Less, Equal, Greater, is_eq, is_some, nat_cmp, string_bytes, refl, sym, ap, subst, ◌∙◌, arith}
use Rattle.std.proofs.lemmas.Map.Text.{is_eq-slice_cmp}
use Rattle.std.proofs.lemmas.Str.{IsUtf8-string_bytes}
use Rattle.std.specs.Cmp.Lexicographic.{slice_cmp}
use Rattle.std.specs.Option.{option_map}
use Rattle.std.specs.Ordering.{match_ordering}
use Rattle.std.specs.Str.{IsUtf8}
use Rattle.ttcn_syntax.specs.declared.tree.definition.Field.{Field}
use Rattle.check_rules.specs.Messages.{port_meant}
use Rattle.check_scope.specs.Names.{Names, field_named}
use Rattle.report_script.specs.Scripts.{are_ports}
use Rattle.report_script.specs.Values.{Given, are_fields, part_named, parts_given, value_given}
use Rattle.serde_json.proofs.Views.{Entry, member_later}
use Rattle.serde_json.specs.Data.{Data, null, boolean, number, string, array, object, depth, Members, members_depth, no_members, member}
use Rattle.serde_json.specs.Find.{as_object, get_member}
use Rattle.serde_json.specs.View.{members_view}

-- what the member of a name gives is what its JSON gives
found-part : (o : Ordering) (b : Bool) (l : List ℕ) (d : Data) (rest : Option (List ℕ × Given)) (r : Option Data) → is_eq o ≡ b → option_map (λ part. part.1) rest ≡ option_map value_given r
    → option_map (λ part. part.1) (if b then Some (l, value_given d) else rest) ≡ option_map value_given (match_ordering o r (Some d) r)
found-part Less true l d rest r is same = absurd (cc)
found-part Less false l d rest r is same = same
found-part Equal true l d rest r is same = refl
found-part Equal false l d rest r is same = absurd (cc)
found-part Greater true l d rest r is same = absurd (cc)
found-part Greater false l d rest r is same = same

pub part-is : (name : List ℕ) (ms : Members) → part_named name (parts_given ms) ≡ option_map value_given (get_member name ms)
part-is name no_members = refl
part-is name (member l d ms) = found-part (slice_cmp nat_cmp name l) (bytes_eq name l) l d _ (get_member name ms) (is_eq-slice_cmp name l) (part-is name ms)

-- a member nests no deeper than all
found-depth : (o : Ordering) (d found : Data) (ms : Members) (r : Option Data) → (r ≡ Some found → depth found ≤ members_depth ms) → match_ordering o r (Some d) r ≡ Some found → depth found ≤ members_depth (member [] d ms)
found-depth Less d found ms r below is = let b = below is in omega arith
found-depth Equal d found ms r below is = let same : d ≡ found = cc in subst (λ x. depth x ≤ members_depth (member [] d ms)) same (omega arith)
found-depth Greater d found ms r below is = let b = below is in omega arith

pub member-depth : (name : List ℕ) (ms : Members) (found : Data) → get_member name ms ≡ Some found → depth found ≤ members_depth ms
member-depth name no_members found is = absurd (cc)
member-depth name (member l d ms) found is = found-depth (slice_cmp nat_cmp name l) d found ms (get_member name ms) (member-depth name ms found) is

pub object-depth : (d : Data) (ms : Members) → Some ms ≡ as_object d → depth d ≡ suc (members_depth ms)
object-depth null ms is = absurd (cc)
object-depth (boolean b) ms is = absurd (cc)
object-depth (number n) ms is = absurd (cc)
object-depth (string s) ms is = absurd (cc)
object-depth (array ds) ms is = absurd (cc)
object-depth (object found) ms is = let same : ms ≡ found = cc in ap (λ m. suc (members_depth m)) (sym same)

-- a name that is no text is that of no member
pub no-text-no-member : (name : List ℕ) (es : List Entry) → ¬ IsUtf8 name → get_member name (members_view es) ≡ None
no-text-no-member name [] other = refl
no-text-no-member name (e ∷ es) other =
    member_later name e es (λ same. other (subst IsUtf8 (sym same) (IsUtf8-string_bytes e.0))) ∙ no-text-no-member name es other

some-mapped : {A B : Type 0} (f : A → B) (o : Option A) → is_some (option_map f o) ≡ is_some o
some-mapped f None = refl
some-mapped f (Some x) = refl

-- a member that has the name of no field
pub no-field : {A : Type 0} (es rest : List Entry) (e : Entry) (fields : List Field) (name : List ℕ) (f : A → Field) (found : Option A) → es ≡ e ∷ rest → name ≡ string_bytes e.0
    → option_map f found ≡ field_named name fields → is_some found ≡ false → are_fields (parts_given (members_view es)) fields ≡ false
no-field es rest e fields name f found split named is none =
    let at : is_some (field_named (string_bytes e.0) fields) ≡ false =
    ap (λ n. is_some (field_named n fields)) (sym named) ∙ ap is_some (sym is) ∙ some-mapped f found ∙ none in
    ap (λ xs. are_fields (parts_given (members_view xs)) fields) split ∙ rw at

-- a member that has the name of no port
pub no-port : (es rest : List Entry) (e : Entry) (names : Names) (found : Option (Option ℕ)) → es ≡ e ∷ rest
    → found ≡ port_meant (names (string_bytes e.0)) → is_some found ≡ false → are_ports names (members_view es) ≡ false
no-port es rest e names found split is none =
    let at : is_some (port_meant (names (string_bytes e.0))) ≡ false = ap is_some (sym is) ∙ none in
    ap (λ xs. are_ports names (members_view xs)) split ∙ rw at
