use Rattle.std.proofs.Common.{◌≡◌, ◌≤◌, ◌+◌, ℕ, take}
use Rattle.parse_limits.specs.Groups.{closed, opened}
use Rattle.parse_limits.proofs.limits.first_too_deep.Given as goal

-- the brackets of the tokens so far are counted, and no front so far is too deep
abbrev pub invariant-loop-spanned : goal.invariant-loop-spanned
invariant-loop-spanned l = record {
  open-count : l.opened ≡ opened (take l.spanned-index l.tokens);
  close-count : l.closed ≡ closed (take l.spanned-index l.tokens);
  open-few : l.opened ≤ l.spanned-index;
  close-few : l.closed ≤ l.spanned-index;
  fine : (n : ℕ) → n ≤ l.spanned-index → opened (take n l.tokens) ≤ 200 + closed (take n l.tokens);
}
