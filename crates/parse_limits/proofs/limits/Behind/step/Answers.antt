use Rattle.std.proofs.Common.{Result, Ok, Err, sym}
use Rattle.std.specs.Result.{OnOk}
use Rattle.parse_limits.proofs.Places.{finds-here, finds-on, finds-on-word, no-group, no-part, unopened-plain, word-closes, word-opens}
use Rattle.ttcn_syntax.specs.declared.token.Symbol.TheVariants as mark
use Rattle.parse_limits.proofs.limits.Behind.step.Goals as goal
use Rattle.parse_limits.proofs.limits.Behind.step.Goals.{then-is_left_out, else-is_left_out+then-begins_ignored, else-is_left_out+else-begins_ignored}

on-ok : {T E P Q : Type 0} (result : Result T E) → (P → Q) → OnOk result P → OnOk result Q
on-ok (Ok x) f p = f p
on-ok (Err e) f p = p

pub returns-in-Symbol : goal.returns-in-Symbol
returns-in-Symbol c = on-ok c.symbol.result (λ further tokens known. further _ tokens c.in-Symbol.is known) c.symbol.ensures

pub returns : goal.returns
returns c = λ tokens known.
    let k = c.args.spanned.now in
    let other = c.in_default.not-Symbol in
    let unopened = unopened-plain k tokens _ (word-opens k.token other) (word-closes k.token other) known.unopened in
    let group = no-group (other mark.LeftBrace) in
    elim c.if-is_left_out.branch [
      | then-is_left_out w ↦ rw w.self-is (record { found = finds-here k tokens (sym w.if-is_left_out.ensures); unopened = unopened; group = group })
      | else-is_left_out+then-begins_ignored w ↦ rw w.self-is (record {
        found = rw w.unwrap_or-self.ensures (finds-on-word k tokens _ _ (sym w.if-begins_ignored.ensures) (sym w.if-is_left_out.ensures) known.group known.found);
        unopened = unopened;
        group = group;
      })
      | else-is_left_out+else-begins_ignored w ↦ rw w.self-is (record {
        found = finds-on _ (no-part (sym w.if-begins_ignored.ensures)) (sym w.if-is_left_out.ensures) known.found;
        unopened = unopened;
        group = group;
      })
    ]
