-- What several functions of the code read one behind the other, of definitions and modules, and groups that are balanced.
use Rattle.std.proofs.Common.{◌≡◌, ◌<◌, List, [], ◌∷◌, ◌++◌, length, reverse, refl, ap, arith}
use Rattle.std.proofs.lemmas.List.{length-reverse, reverse-append}
use Rattle.std.specs.Prelude.{None, Some}
use Rattle.ttcn_syntax.specs.declared.token.Spanned.{Spanned}
use Rattle.ttcn_syntax.specs.declared.token.Symbol.{Symbol}
use Rattle.ttcn_syntax.specs.declared.token.Token.{Token}
use Rattle.ttcn_syntax.specs.declared.token.Symbol.TheVariants as mark
use Rattle.ttcn_syntax.specs.declared.token.Word.TheVariants as word
use Rattle.ttcn_syntax.specs.declared.tree.definition.DefinitionKind.TheVariants as kind
use Rattle.parse_reader.specs.internal.Reading.{Parsed, after_semicolons, and_then, behind, expect, expect_word, head_token, items, name}
use Rattle.parse_reader.specs.internal.Statements.{a_block, the_branches}
use Rattle.parse_reader.specs.internal.Definitions.{def_altstep, def_function, def_testcase, parameters, result_type, runs_on, runs_on_if_any, signature, system_type, testcase_name}
use Rattle.parse_reader.specs.Modules.{at_last, balanced_from, control, definition_with, go_on, language, module_end, module_head, over_token, whole, with_}
use Rattle.parse_reader.proofs.Pieces.{piece, step}

-- ---- definitions and modules

pub function_split : (ts : List Spanned) → and_then (signature word.Function ts) (λ s r. and_then (runs_on_if_any r) (λ component r.
    and_then (result_type r) (λ result r. and_then (a_block r) (λ ss r.
    Some (kind.Function (record { name = s.0; parameters = s.1; runs_on = component; returns = result; body = ss }), r))))) ≡ def_function ts
unfolding def_function signature
function_split ts = piece (expect_word word.Function ts) _ _ _ (λ _ r. piece (name r) _ _ _ (λ bytes r. piece (parameters r) _ _ _ (λ ps r. refl)))

pub altstep_split : (ts : List Spanned) → and_then (signature word.Altstep ts) (λ s r. and_then (runs_on_if_any r) (λ component r.
    and_then (the_branches r) (λ bs r. Some (kind.Altstep (record { name = s.0; parameters = s.1; runs_on = component; branches = bs }), r)))) ≡ def_altstep ts
unfolding def_altstep signature
altstep_split ts = piece (expect_word word.Altstep ts) _ _ _ (λ _ r. piece (name r) _ _ _ (λ bytes r. piece (parameters r) _ _ _ (λ ps r. refl)))

pub testcase_split : (ts : List Spanned) → and_then (testcase_name ts) (λ bytes r. and_then (runs_on r) (λ component r.
    and_then (system_type r) (λ system r. and_then (a_block r) (λ ss r.
    Some (kind.Testcase (record { name = bytes; runs_on = component; system = system; body = ss }), r))))) ≡ def_testcase ts
unfolding def_testcase testcase_name
testcase_split ts = piece (expect_word word.Testcase ts) _ _ _ (λ _ r. piece (name r) _ _ _ (λ bytes r. piece (expect mark.LeftParen r) _ _ _ (λ _ r.
    piece (expect mark.RightParen r) _ _ _ (λ _ r. refl))))

pub whole_split : (ts : List Spanned) → and_then (module_head ts) (λ bytes r. and_then (items at_last definition_with r) (λ ds r.
    and_then (module_end r) (λ _ r. Some (record { name = bytes; definitions = ds }, r)))) ≡ whole ts
unfolding whole module_head module_end
whole_split ts = piece (expect_word word.Module ts) _ _ _ (λ _ r. piece (name r) _ _ _ (λ bytes r. piece (language r) _ _ _ (λ _ r. piece (expect mark.LeftBrace r) _ _ _ (λ _ r.
    step (items at_last definition_with (after_semicolons r)) _ _ (λ ds r. piece (control r) _ _ _ (λ _ r. piece (expect mark.RightBrace r) _ _ _ (λ _ r.
    piece (with_ r) _ _ _ (λ _ r. refl))))))))

-- ---- groups

-- no bracket is closed where no token is left
pub nothing_balanced : (expected : List Symbol) → balanced_from expected [] ≡ None
unfolding balanced_from
nothing_balanced expected = refl

-- ---- a stack whose top is its last element

pub top_first : (xs ys : List Symbol) (top : Symbol) → xs ≡ ys ++ top ∷ [] → reverse xs ≡ top ∷ reverse ys
top_first xs ys top h = rw h (reverse-append ys (top ∷ []))

pub nothing_first : (xs : List Symbol) → length xs ≡ 0 → reverse xs ≡ []
nothing_first [] h = refl
nothing_first (x ∷ xs) h = absurd (omega (arith, h))

pub balanced-step : (expected : List Symbol) (ts : List Spanned) (t : Token) → head_token ts ≡ Some t
    → balanced_from expected ts ≡ go_on (λ cs. balanced_from cs (behind ts)) (over_token expected t) (behind ts)
unfolding balanced_from
balanced-step expected [] t h = cc
balanced-step expected (k ∷ ts) t h =
    let is : k.token ≡ t = cc in
    ap (λ t. go_on (λ cs. balanced_from cs ts) (over_token expected t) ts) is

pub go-on-left : (others : List Symbol → Parsed (Unit {0})) (xs : List Symbol) (ts : List Spanned) → 0 < length xs
    → go_on others (Some (reverse xs)) ts ≡ others (reverse xs)
go-on-left others xs ts h = going (reverse xs) (simp (length-reverse xs) h)
  where
    going : (all : List Symbol) → 0 < length all → go_on others (Some all) ts ≡ others all
    going [] h = absurd (omega (arith, h))
    going (x ∷ all) h = refl
