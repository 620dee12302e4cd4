use Rattle.std.proofs.Common.{◌≡◌, ◌∙◌, ap, sym, rules}
use Rattle.ttcn_syntax.specs.declared.token.Token.TheVariants as variant
use Rattle.std.proofs.lemmas.List.{reverse-append}
use Rattle.ttcn_syntax.specs.declared.token.Symbol.TheVariants as mark
use Rattle.parse_limits.specs.Groups.{closes, opens, partner}
use Rattle.parse_limits.specs.LeftOut.{begins_ignored, is_left_out}
use Rattle.parse_limits.proofs.Balances.{no-partner-opens}
use Rattle.parse_limits.proofs.Places.{finds-on, group-open, no-brace, no-part, unopened-close, unopened-open, unopened-plain}
use Rattle.parse_limits.proofs.limits.Behind.symbol.Goals as goal

pub returns-then-eq : goal.returns-then-eq
returns-then-eq c = λ place tokens is known. record {
  found = rw c.open-found.ensures.found (finds-on _ (no-part (ap begins_ignored is)) (ap is_left_out is) known.found);
  unopened = unopened-open place tokens _ _ _ is (sym c.in-Some.ensures) c.open-found.ensures.unopened known.unopened;
  group = group-open place tokens _ _ _ is (search rules) (sym c.in-Some.ensures) c.open-found.ensures.unopened known.unopened;
}

pub returns-else-eq : goal.returns-else-eq
returns-else-eq c = λ place tokens is known.
    let other : c.args.symbol ≡ mark.LeftBrace → ⊥ = search rules in
    record {
      found = rw c.open-found.ensures.found (finds-on _ (no-part (ap begins_ignored is)) (ap is_left_out is) known.found);
      unopened = unopened-open place tokens _ _ _ is (sym c.in-Some.ensures) c.open-found.ensures.unopened known.unopened;
      group = rw c.open-found.ensures.group (no-brace is other);
    }

pub returns-in_ok-push : goal.returns-in_ok-push
returns-in_ok-push c = λ place tokens is known. record {
  found = finds-on _ (no-part (ap begins_ignored is)) (ap is_left_out is) known.found;
  unopened = rw (c.in_ok-push.ensures.items, reverse-append) (unopened-close place tokens _ c.args.symbol c.args.self.now.found is (ap closes is ∙ sym c.if-closes.ensures) known.found known.unopened);
  group = no-brace is (λ brace. cc (c.if-closes.ensures ∙ ap (λ s. closes (variant.Symbol s)) brace));
}

pub returns-else-closes : goal.returns-else-closes
returns-else-closes c = λ place tokens is known. record {
  found = finds-on _ (no-part (ap begins_ignored is)) (ap is_left_out is) known.found;
  unopened = unopened-plain place tokens _ (ap opens is ∙ no-partner-opens _ (sym c.in_default.ensures)) (ap closes is ∙ sym c.if-closes.ensures) known.unopened;
  group = no-brace is (λ brace. cc (c.in_default.ensures ∙ ap partner brace));
}
