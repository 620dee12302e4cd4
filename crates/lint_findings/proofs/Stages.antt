-- A text is judged in one way.
use Rattle.std.proofs.Common.{◌≡◌, ℕ, ◌<◌, ◌≤◌, List, [], ◌∷◌, length, refl, sym, ap, subst, ◌∙◌, arith, inl, inr}
use Rattle.std.specs.Prelude.{◌⊎◌, ◌↔◌, Option, Some, None, Result, Ok, Err, IfOk}
use Rattle.std.specs.List.{slice_get}
use Rattle.std.specs.declared.alloc.AllocError.{AllocError}
use Rattle.std.proofs.lemmas.Bool.{cases_lt}
use Rattle.ttcn_syntax.specs.Cut.{IsCut, IsLeftmostFault, Stops, at_fault, past_gap, past_token, no_piece, unended_comment, unended_text, number_too_large}
use Rattle.ttcn_syntax.specs.Limits.{longest_text}
use Rattle.ttcn_syntax.specs.declared.error.LexError.{LexError}
use Rattle.ttcn_syntax.specs.declared.error.LexError.TheVariants as lexical
use Rattle.ttcn_syntax.specs.declared.token.Spanned.{Spanned}
use Rattle.ttcn_syntax.specs.declared.tree.definition.Definition.{Definition}
use Rattle.ttcn_syntax.specs.declared.tree.definition.Module.{Module}
use Rattle.ttcn_syntax.proofs.Once.{reads-once}
use Rattle.ttcn_parse.proofs.Complete.{one_tree}
use Rattle.ttcn_parse.specs.Refused.{IsRead, IsRefused}
use Rattle.ttcn_parse.specs.ParseError.{ParseError}
use Rattle.ttcn_parse.specs.ParseError.TheVariants as reading
use Rattle.check_rules.specs.Rules.{AreWellTyped, IsLeast}
use Rattle.check_scope.specs.Numbers.{number_of}
use Rattle.check_scope.specs.declared.rule.Rule.{Rule}
use Rattle.check_scope.specs.declared.rule.Rule.TheVariants as rule
use Rattle.lint_findings.specs.Errors.{AreJudged, HasOneJudgement, IsJudged, accepted, broken, cut, first_reason, grammar_reason, lexical_reason, too_long, uncut, unread}
use Rattle.lint_findings.specs.declared.finding.Finding.{Finding}
use Rattle.lint_findings.specs.declared.finding.Findings.{Findings}
use Rattle.lint_findings.specs.declared.finding.Reason.{Reason}
use Rattle.lint_findings.specs.declared.finding.Reason.TheVariants as reason

-- ---- one least rule

-- the rules by their numbers, which begin with 1
the-rules : List Rule
the-rules =
    rule.DuplicateName ∷ rule.DuplicateName ∷ rule.UnknownName ∷ rule.BadType ∷ rule.Cycle ∷ rule.Size ∷ rule.EnumNumbers ∷ rule.OperandType ∷ rule.ValueType ∷ rule.NotAssignable ∷ rule.Arguments ∷ rule.Fields ∷ rule.Condition ∷ rule.RunsOn ∷ rule.PortType ∷ rule.Redirect ∷ rule.CallKind ∷ rule.ReturnPlace ∷ rule.RepeatPlace ∷ rule.VerdictError ∷ rule.MtcPlace ∷ []

stands-there : (r : Rule) → slice_get the-rules (number_of r) ≡ Some r
unfolding the-rules
stands-there rule.DuplicateName = refl
stands-there rule.UnknownName = refl
stands-there rule.BadType = refl
stands-there rule.Cycle = refl
stands-there rule.Size = refl
stands-there rule.EnumNumbers = refl
stands-there rule.OperandType = refl
stands-there rule.ValueType = refl
stands-there rule.NotAssignable = refl
stands-there rule.Arguments = refl
stands-there rule.Fields = refl
stands-there rule.Condition = refl
stands-there rule.RunsOn = refl
stands-there rule.PortType = refl
stands-there rule.Redirect = refl
stands-there rule.CallKind = refl
stands-there rule.ReturnPlace = refl
stands-there rule.RepeatPlace = refl
stands-there rule.VerdictError = refl
stands-there rule.MtcPlace = refl

some-is : {A : Type 0} {a b : A} → Some a ≡ Some b → a ≡ b
some-is {A = A} {a = a} h =
    let the : Option A → A = λ o. elim o as (λ _. A) [ Some r ↦ r | None ↦ a ] in ap the h

one-least : (definitions : List Definition) (a b : Rule) → IsLeast definitions a → IsLeast definitions b → a ≡ b
one-least definitions a b h k =
    let below = h.least b k.broken in
    let above = k.least a h.broken in
    let same : number_of a ≡ number_of b = omega (arith, below, above) in
    some-is (sym (stands-there a) ∙ ap (slice_get the-rules) same ∙ stands-there b)

-- ---- one judgement of tokens

one-refusal : (tokens : List Spanned) (e f : ParseError) (a b : Reason) → IsRefused tokens e → IsRefused tokens f → grammar_reason e ≡ Some a → grammar_reason f ≡ Some b
    → grammar_reason e ≡ grammar_reason f
one-refusal tokens (reading.TooDeep p) (reading.TooDeep q) a b deep also x y = refl
one-refusal tokens (reading.TooDeep p) (reading.LeftOut q) a b deep out x y = absurd (out.0 deep)
one-refusal tokens (reading.TooDeep p) (reading.Unexpected q) a b deep none x y = absurd (none.not_deep deep)
one-refusal tokens (reading.LeftOut p) (reading.TooDeep q) a b out deep x y = absurd (out.0 deep)
one-refusal tokens (reading.LeftOut p) (reading.LeftOut q) a b out also x y = refl
one-refusal tokens (reading.LeftOut p) (reading.Unexpected q) a b out none x y = absurd (none.not_left_out out.1)
one-refusal tokens (reading.Unexpected p) (reading.TooDeep q) a b none deep x y = absurd (none.not_deep deep)
one-refusal tokens (reading.Unexpected p) (reading.LeftOut q) a b none out x y = absurd (none.not_left_out out.1)
one-refusal tokens (reading.Unexpected p) (reading.Unexpected q) a b none also x y = refl
one-refusal tokens reading.Memory f a b e also x y = cc
one-refusal tokens e reading.Memory a b refused also x y = cc

not-refused : (tokens : List Spanned) (tree : Module) (e : ParseError) (why : Reason) → IsRead tokens tree → IsRefused tokens e → grammar_reason e ≡ Some why → ⊥
not-refused tokens tree (reading.TooDeep place) why is deep has = is.not_deep deep
not-refused tokens tree (reading.LeftOut place) why is out has = is.not_left_out out.1
not-refused tokens tree (reading.Unexpected place) why is none has = none.no_module tree is.is_module
not-refused tokens tree reading.Memory why is none has = cc

not-broken : (tokens : List Spanned) (tree other : Module) (r : Rule) → IsRead tokens tree → AreWellTyped tree.definitions → IsRead tokens other → IsLeast other.definitions r → ⊥
not-broken tokens tree other r is well also least =
    let same = one_tree tokens tree other is.is_module also.is_module in
    subst (λ tree. AreWellTyped tree.definitions) same well r least.broken

one-of-tokens : (tokens : List Spanned) (one other : Option Reason) → AreJudged tokens one → AreJudged tokens other → one ≡ other
one-of-tokens tokens one other (accepted is well) (accepted also too) = refl
one-of-tokens tokens one other (accepted {tree = tree} is well) (unread e {why = why} refused has) = absurd (not-refused tokens tree e why is refused has)
one-of-tokens tokens one other (accepted {tree = tree} is well) (broken {tree = next} {rule = r} also least) = absurd (not-broken tokens tree next r is well also least)
one-of-tokens tokens one other (unread e {why = why} refused has) (accepted {tree = tree} is well) = absurd (not-refused tokens tree e why is refused has)
one-of-tokens tokens one other (unread e {why = a} refused has) (unread f {why = b} also too) =
    sym has ∙ one-refusal tokens e f a b refused also has too ∙ too
one-of-tokens tokens one other (unread e {why = why} refused has) (broken {tree = tree} is least) = absurd (not-refused tokens tree e why is refused has)
one-of-tokens tokens one other (broken {tree = next} {rule = r} also least) (accepted {tree = tree} is well) = absurd (not-broken tokens tree next r is well also least)
one-of-tokens tokens one other (broken {tree = tree} is least) (unread e {why = why} refused has) = absurd (not-refused tokens tree e why is refused has)
one-of-tokens tokens one other (broken {tree = tree} {rule = r} is least) (broken {tree = next} {rule = s} also too) =
    let same = one_tree tokens tree next is.is_module also.is_module in
    ap (λ r. Some (reason.Broken r)) (one-least next.definitions r s (subst (λ tree. IsLeast tree.definitions r) same least) too)

-- ---- one judgement of a text

pub one_judgement : (text : List ℕ) → HasOneJudgement text
one_judgement text one other (too_long long) (too_long also) = refl
one_judgement text one other (too_long long) (uncut error fine stops has) = absurd (omega (arith, long, fine))
one_judgement text one other (too_long long) (cut fine is judged) = absurd (omega (arith, long, fine))
one_judgement text one other (uncut error fine stops has) (too_long long) = absurd (omega (arith, long, fine))
one_judgement text one other (uncut e fine stops has) (uncut f also too means) =
    sym has ∙ ap lexical_reason ((reads-once text).one_fault e f stops too) ∙ means
one_judgement text one other (uncut e fine stops has) (cut {tokens = tokens} also is judged) = absurd ((reads-once text).not_both tokens e is stops)
one_judgement text one other (cut fine is judged) (too_long long) = absurd (omega (arith, long, fine))
one_judgement text one other (cut {tokens = tokens} fine is judged) (uncut e also stops has) = absurd ((reads-once text).not_both tokens e is stops)
one_judgement text one other (cut {tokens = tokens} fine is judged) (cut {tokens = others} also too more) =
    let same = (reads-once text).one_cut tokens others is too in
    one-of-tokens others one other (subst (λ tokens. AreJudged tokens one) same judged) more

-- ---- what each stage answers

no-stop : {before text : List ℕ} {e : LexError} → Stops before text e → e ≡ lexical.TextTooLong → ⊥
no-stop (at_fault longest no_piece) is = cc
no-stop (at_fault longest unended_comment) is = cc
no-stop (at_fault longest unended_text) is = cc
no-stop (at_fault longest (number_too_large large)) is = cc
no-stop (past_gap longest gap more) is = no-stop more is
no-stop (past_token longest gives more) is = no-stop more is

-- a text that isn't too long
short : {A : Type 0} (text : List ℕ) (result : Result A LexError) → ((result ≡ Err lexical.TextTooLong) ↔ (longest_text < length text))
    → (result ≡ Err lexical.TextTooLong → ⊥) → length text ≤ longest_text
short text result exactly other = within (cases_lt longest_text (length text))
  where
    within : (longest_text < length text) ⊎ (length text ≤ longest_text) → length text ≤ longest_text
    within (inl long) = absurd (other (exactly.1 long))
    within (inr fine) = fine

-- what is found in tokens, by what is judged of them
pub of-tokens : (tokens : List Spanned) (why : Option Reason) (r : Result Findings AllocError) → AreJudged tokens why
    → IfOk r (λ found. first_reason found.errors.items ≡ why) → IfOk r (λ found. AreJudged tokens (first_reason found.errors.items))
of-tokens tokens why (Ok found) is same = subst (AreJudged tokens) (sym same) is
of-tokens tokens why (Err error) is same = tt

-- what is found in a text that is cut into tokens
pub of-cut : {A : Type 0} (text : List ℕ) (tokens : List Spanned) (cut_as : A) (r : Result Findings AllocError)
    → (◌≡◌ {A = Result A LexError} (Ok cut_as) (Err lexical.TextTooLong) ↔ (longest_text < length text)) → IsCut text tokens
    → IfOk r (λ found. AreJudged tokens (first_reason found.errors.items)) → IfOk r (λ found. IsJudged text (first_reason found.errors.items))
of-cut text tokens cut_as (Ok found) exactly is judged = cut (short text (Ok cut_as) exactly (λ h. cc)) is judged
of-cut text tokens cut_as (Err error) exactly is judged = tt

uncut-is : {A : Type 0} (text : List ℕ) (e : LexError) (why : Reason) → (◌≡◌ {A = Result A LexError} (Err e) (Err lexical.TextTooLong) ↔ (longest_text < length text))
    → (e ≡ lexical.TextTooLong) ⊎ ((e ≡ lexical.Memory) ⊎ IsLeftmostFault text e) → lexical_reason e ≡ Some why → IsJudged text (Some why)
uncut-is text e why exactly (inl is) has = subst (IsJudged text) (sym (ap lexical_reason is) ∙ has) (too_long (exactly.0 (ap Err is)))
uncut-is text e why exactly (inr (inl is)) has = let none : None ≡ Some why = sym (ap lexical_reason is) ∙ has in cc
uncut-is {A = A} text e why exactly (inr (inr stops)) has =
    uncut e (short {A = A} text (Err e) exactly (λ h. no-stop stops (error-is e h))) stops has
  where
    error-is : (e : LexError) → ◌≡◌ {A = Result A LexError} (Err e) (Err lexical.TextTooLong) → e ≡ lexical.TextTooLong
    error-is e h = let the : Result A LexError → LexError = λ r. elim r as (λ _. LexError) [ Ok a ↦ e | Err x ↦ x ] in ap the h

-- what is found in a text that can't be cut into tokens
pub of-uncut : {A : Type 0} (text : List ℕ) (e : LexError) (why : Reason) (r : Result Findings AllocError)
    → (◌≡◌ {A = Result A LexError} (Err e) (Err lexical.TextTooLong) ↔ (longest_text < length text))
    → (e ≡ lexical.TextTooLong) ⊎ ((e ≡ lexical.Memory) ⊎ IsLeftmostFault text e) → lexical_reason e ≡ Some why
    → IfOk r (λ found. first_reason found.errors.items ≡ Some why) → IfOk r (λ found. IsJudged text (first_reason found.errors.items))
of-uncut {A = A} text e why (Ok found) exactly fault has same = subst (IsJudged text) (sym same) (uncut-is {A = A} text e why exactly fault has)
of-uncut text e why (Err error) exactly fault has same = tt

-- there is no error exactly where the text is accepted
no_error : (text : List ℕ) (errors : List Finding) → IsJudged text (first_reason errors) → (errors ≡ []) ↔ IsJudged text None
no_error text errors judged = (λ is. subst (λ errors. IsJudged text (first_reason errors)) is judged, λ accepted. none errors (one_judgement text (first_reason errors) None judged accepted))
  where
    none : (errors : List Finding) → first_reason errors ≡ None → errors ≡ []
    none [] is = refl
    none (first ∷ others) is = cc

pub of-accepted : (text : List ℕ) (r : Result Findings AllocError) → IfOk r (λ found. IsJudged text (first_reason found.errors.items))
    → IfOk r (λ found. (found.errors.items ≡ []) ↔ IsJudged text None)
of-accepted text (Ok found) judged = no_error text found.errors.items judged
of-accepted text (Err error) judged = tt
