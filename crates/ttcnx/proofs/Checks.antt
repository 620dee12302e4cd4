-- A text is accepted, or refused in one way.
use Rattle.std.proofs.Common.{◌≡◌, ℕ, ◌<◌, ◌≤◌, List, [], ◌∷◌, length, refl, sym, ap, subst, ◌∙◌, arith, inl, inr}
use Rattle.std.specs.Prelude.{◌⊎◌, ◌↔◌, Option, Some, None, Result, Ok, Err}
use Rattle.std.specs.List.{slice_get}
use Rattle.ttcn_syntax.specs.Cut.{IsCut, IsLeftmostFault}
use Rattle.ttcn_syntax.specs.Limits.{longest_text}
use Rattle.ttcn_syntax.specs.declared.error.LexError.{LexError}
use Rattle.ttcn_syntax.specs.declared.error.LexError.TheVariants as lexical
use Rattle.ttcn_syntax.specs.declared.token.Spanned.{Spanned}
use Rattle.ttcn_syntax.specs.declared.tree.definition.Definition.{Definition}
use Rattle.ttcn_syntax.specs.declared.tree.definition.Module.{Module}
use Rattle.ttcn_syntax.proofs.Once.{reads-once}
use Rattle.ttcn_parse.proofs.Complete.{one_tree}
use Rattle.ttcn_parse.specs.Refused.{IsRead, IsRefused}
use Rattle.ttcn_parse.specs.ParseError.{ParseError}
use Rattle.ttcn_parse.specs.ParseError.TheVariants as reading
use Rattle.check_scope.specs.Numbers.{number_of}
use Rattle.check_rules.specs.Rules.{AreWellTyped, IsLeast}
use Rattle.ttcn_types.specs.Refusals.{IsRefusal}
use Rattle.ttcn_types.specs.declared.error.CheckError.{CheckError}
use Rattle.ttcn_types.specs.declared.error.CheckError.TheVariants as typing
use Rattle.check_scope.specs.declared.rule.Rule.{Rule}
use Rattle.check_scope.specs.declared.rule.Rule.TheVariants as rule
use Rattle.ttcnx.specs.Checked.{AreRefused, HasOneJudgement, IsAccepted, IsRefusedWith, broken, cut, left_out, too_deep, too_long, uncut, unexpected}
use Rattle.ttcnx.specs.Fault.{SameFault, grammar_fault, lexical_fault, typing_fault}
use Rattle.ttcnx.specs.declared.fault.Fault.{Fault}
use Rattle.ttcnx.specs.declared.fault.Fault.TheVariants as fault
use Rattle.ttcnx.specs.declared.fault.Refusal.TheVariants as refusal
use Rattle.ttcnx.proofs.Stages.{no-stop, short}

-- the fault is that an allocation failed, or why the text is refused
abbrev pub Refuses : List ℕ → Fault → Type 0
Refuses text why = (why ≡ fault.Memory) ⊎ IsRefusedWith text why

-- ---- what each stage answers

pub lexing : {A : Type 0} (text : List ℕ) (e : LexError) → (◌≡◌ {A = Result A LexError} (Err e) (Err lexical.TextTooLong) ↔ (longest_text < length text))
    → (e ≡ lexical.TextTooLong) ⊎ ((e ≡ lexical.Memory) ⊎ IsLeftmostFault text e) → Refuses text (lexical_fault e)
lexing text e exactly (inl is) = rw is (inr (too_long (exactly.0 (ap Err is))))
lexing text e exactly (inr (inl is)) = inl (ap lexical_fault is)
lexing {A = A} text e exactly (inr (inr stops)) = inr (uncut (short {A = A} text (Err e) exactly (λ h. no-stop stops (error-is e h))) stops)
  where
    error-is : (e : LexError) → ◌≡◌ {A = Result A LexError} (Err e) (Err lexical.TextTooLong) → e ≡ lexical.TextTooLong
    error-is e h = let the : Result A LexError → LexError = λ r. elim r as (λ _. LexError) [ Ok a ↦ e | Err x ↦ x ] in ap the h

pub parsing : (text : List ℕ) (tokens : List Spanned) (e : ParseError) → length text ≤ longest_text → IsCut text tokens → IsRefused tokens e
    → Refuses text (grammar_fault e)
parsing text tokens (reading.TooDeep place) fine is_cut why = inr (cut fine is_cut (too_deep why))
parsing text tokens (reading.LeftOut place) fine is_cut why = inr (cut fine is_cut (left_out why.0 why.1))
parsing text tokens (reading.Unexpected place) fine is_cut why = inr (cut fine is_cut (unexpected why))
parsing text tokens reading.Memory fine is_cut why = inl refl

pub checking : (text : List ℕ) (tokens : List Spanned) (tree : Module) (e : CheckError) → length text ≤ longest_text → IsCut text tokens
    → IsRead tokens tree → IsRefusal tree.definitions e → Refuses text (typing_fault e)
checking text tokens tree (typing.Broken rule place) fine is_cut is_read least = inr (cut fine is_cut (broken is_read least))
checking text tokens tree (typing.Memory error) fine is_cut is_read least = inl refl

-- ---- one judgement

-- the rules by their numbers, which begin with 1
the-rules : List Rule
the-rules =
    rule.DuplicateName ∷ rule.DuplicateName ∷ rule.UnknownName ∷ rule.BadType ∷ rule.Cycle ∷ rule.Size ∷ rule.EnumNumbers ∷ rule.OperandType ∷ rule.ValueType ∷ rule.NotAssignable ∷ rule.Arguments ∷ rule.Fields ∷ rule.Condition ∷ rule.RunsOn ∷ rule.PortType ∷ rule.Redirect ∷ rule.CallKind ∷ rule.ReturnPlace ∷ rule.RepeatPlace ∷ rule.VerdictError ∷ rule.MtcPlace ∷ []

stands-there : (r : Rule) → slice_get the-rules (number_of r) ≡ Some r
unfolding the-rules
stands-there rule.DuplicateName = refl
stands-there rule.UnknownName = refl
stands-there rule.BadType = refl
stands-there rule.Cycle = refl
stands-there rule.Size = refl
stands-there rule.EnumNumbers = refl
stands-there rule.OperandType = refl
stands-there rule.ValueType = refl
stands-there rule.NotAssignable = refl
stands-there rule.Arguments = refl
stands-there rule.Fields = refl
stands-there rule.Condition = refl
stands-there rule.RunsOn = refl
stands-there rule.PortType = refl
stands-there rule.Redirect = refl
stands-there rule.CallKind = refl
stands-there rule.ReturnPlace = refl
stands-there rule.RepeatPlace = refl
stands-there rule.VerdictError = refl
stands-there rule.MtcPlace = refl

pub some-is : {A : Type 0} {a b : A} → Some a ≡ Some b → a ≡ b
some-is {A = A} {a = a} h =
    let the : Option A → A = λ o. elim o as (λ _. A) [ Some r ↦ r | None ↦ a ] in ap the h

one-least : (definitions : List Definition) (a b : Rule) → IsLeast definitions a → IsLeast definitions b → a ≡ b
one-least definitions a b h k =
    let below = h.least b k.broken in
    let above = k.least a h.broken in
    let same : number_of a ≡ number_of b = omega (arith, below, above) in
    some-is (sym (stands-there a) ∙ ap (slice_get the-rules) same ∙ stands-there b)

one-of-tokens : (tokens : List Spanned) (a b : Fault) → AreRefused tokens a → AreRefused tokens b → SameFault a b
one-of-tokens tokens a b (too_deep deep) (too_deep also) = refl
one-of-tokens tokens a b (too_deep deep) (left_out shallow out) = absurd (shallow deep)
one-of-tokens tokens a b (too_deep deep) (unexpected unread) = absurd (unread.not_deep deep)
one-of-tokens tokens a b (too_deep deep) (broken is least) = absurd (is.not_deep deep)
one-of-tokens tokens a b (left_out shallow out) (too_deep deep) = absurd (shallow deep)
one-of-tokens tokens a b (left_out shallow out) (left_out also too) = refl
one-of-tokens tokens a b (left_out shallow out) (unexpected unread) = absurd (unread.not_left_out out)
one-of-tokens tokens a b (left_out shallow out) (broken is least) = absurd (is.not_left_out out)
one-of-tokens tokens a b (unexpected unread) (too_deep deep) = absurd (unread.not_deep deep)
one-of-tokens tokens a b (unexpected unread) (left_out shallow out) = absurd (unread.not_left_out out)
one-of-tokens tokens a b (unexpected unread) (unexpected also) = refl
one-of-tokens tokens a b (unexpected unread) (broken {tree = tree} is least) = absurd (unread.no_module tree is.is_module)
one-of-tokens tokens a b (broken is least) (too_deep deep) = absurd (is.not_deep deep)
one-of-tokens tokens a b (broken is least) (left_out shallow out) = absurd (is.not_left_out out)
one-of-tokens tokens a b (broken {tree = tree} is least) (unexpected unread) = absurd (unread.no_module tree is.is_module)
one-of-tokens tokens a b (broken {tree = tree} {rule = r} is least) (broken {tree = other} {rule = s} also too) =
    let same = one_tree tokens tree other is.is_module also.is_module in
    ap refusal.Broken (one-least other.definitions r s (subst (λ tree. IsLeast tree.definitions r) same least) too)

same-fault : (f : Fault) → SameFault f f
same-fault (fault.Refused why place) = refl
same-fault fault.NoSuchTestCase = refl
same-fault (fault.BadScript why) = refl
same-fault (fault.BadLabel line) = refl
same-fault (fault.NotEnabled label) = refl
same-fault (fault.NotFine label) = refl
same-fault fault.NotEnded = refl
same-fault fault.TooMany = refl
same-fault fault.BadPlan = refl
same-fault fault.Memory = refl
same-fault (fault.CannotRead file) = refl
same-fault fault.CannotWrite = refl

one-of-text : (text : List ℕ) (a b : Fault) → IsRefusedWith text a → IsRefusedWith text b → SameFault a b
one-of-text text a b (too_long long) (too_long also) = refl
one-of-text text a b (too_long long) (uncut fine stops) = absurd (omega (arith, long, fine))
one-of-text text a b (too_long long) (cut fine is more) = absurd (omega (arith, long, fine))
one-of-text text a b (uncut fine stops) (too_long long) = absurd (omega (arith, long, fine))
one-of-text text a b (uncut {error = e} fine stops) (uncut {error = f} also too) =
    let same = (reads-once text).one_fault e f stops too in
    subst (λ x. SameFault (lexical_fault e) (lexical_fault x)) same (same-fault (lexical_fault e))
one-of-text text a b (uncut {error = e} fine stops) (cut {tokens = tokens} also is more) = absurd ((reads-once text).not_both tokens e is stops)
one-of-text text a b (cut fine is more) (too_long long) = absurd (omega (arith, long, fine))
one-of-text text a b (cut {tokens = tokens} fine is more) (uncut {error = e} also stops) = absurd ((reads-once text).not_both tokens e is stops)
one-of-text text a b (cut {tokens = tokens} fine is more) (cut {tokens = others} also too more_too) =
    let same = (reads-once text).one_cut tokens others is too in
    one-of-tokens others a b (subst (λ tokens. AreRefused tokens a) same more) more_too

never-of-tokens : (tokens : List Spanned) (tree : Module) (why : Fault) → IsRead tokens tree → AreWellTyped tree.definitions → AreRefused tokens why → ⊥
never-of-tokens tokens tree why is well (too_deep deep) = is.not_deep deep
never-of-tokens tokens tree why is well (left_out shallow out) = is.not_left_out out
never-of-tokens tokens tree why is well (unexpected unread) = unread.no_module tree is.is_module
never-of-tokens tokens tree why is well (broken {tree = other} {rule = r} also least) =
    let same = one_tree tokens tree other is.is_module also.is_module in
    subst (λ tree. AreWellTyped tree.definitions) same well r least.broken

never-both : (text : List ℕ) (why : Fault) → IsAccepted text → IsRefusedWith text why → ⊥
never-both text why (tree, fine) (too_long long) = let short = fine.short in omega (arith, long, short)
never-both text why (tree, fine) (uncut {error = e} short stops) = (reads-once text).not_both fine.tokens e fine.is_cut stops
never-both text why (tree, fine) (cut {tokens = others} short is more) =
    let same = (reads-once text).one_cut others fine.tokens is fine.is_cut in
    never-of-tokens fine.tokens tree why fine.is_read fine.well_typed (subst (λ tokens. AreRefused tokens why) same more)

pub one_judgement : (text : List ℕ) → HasOneJudgement text
one_judgement text = record {
  not_both = λ {why = why} fine refused. never-both text why fine refused;
  one_refusal = λ {why = why} {other = other} one two. one-of-text text why other one two;
}
