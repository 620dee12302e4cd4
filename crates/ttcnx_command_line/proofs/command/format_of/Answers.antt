use Rattle.std.proofs.Common.{rules, ◌≡◌, refl, subst, codes}
use Rattle.clap.specs.Words.{found_of, rows_of}
use Rattle.ttcnx_command_line.specs.Command.{IsText}
use Rattle.ttcnx_command_line.proofs.Getters.{format-left, format-there, text-copied}
use Rattle.ttcnx_command_line.proofs.command.format_of.Goals as goal

pub unwrap-word-requires : goal.unwrap-word-requires
unwrap-word-requires c = format-there (found_of c.args.given.now) c.get_str.result c.get_str.ensures c.requires

pub returns-then-eq : goal.returns-then-eq
returns-then-eq c =
    let word = c.unwrap-word.result in
    let same : word.now ≡ codes "json" = search rules in
    subst (IsText (rows_of (found_of c.args.given.now)) (codes "format")) same
    (text-copied (found_of c.args.given.now) (codes "format") c.get_str.result word word.now c.get_str.ensures c.unwrap-word.ensures refl)

pub returns-then-eq-2 : goal.returns-then-eq-2
returns-then-eq-2 c =
    let word = c.unwrap-word.result in
    let same : word.now ≡ codes "mermaid" = search rules in
    subst (IsText (rows_of (found_of c.args.given.now)) (codes "format")) same
    (text-copied (found_of c.args.given.now) (codes "format") c.get_str.result word word.now c.get_str.ensures c.unwrap-word.ensures refl)

pub returns-then-eq-3 : goal.returns-then-eq-3
returns-then-eq-3 c =
    let word = c.unwrap-word.result in
    let same : word.now ≡ codes "svg" = search rules in
    subst (IsText (rows_of (found_of c.args.given.now)) (codes "format")) same
    (text-copied (found_of c.args.given.now) (codes "format") c.get_str.result word word.now c.get_str.ensures c.unwrap-word.ensures refl)

pub returns-else-eq-3 : goal.returns-else-eq-3
returns-else-eq-3 c =
    let word = c.unwrap-word.result in
    let json : word.now ≡ codes "json" → ⊥ = search rules in
    let mermaid : word.now ≡ codes "mermaid" → ⊥ = search rules in
    let svg : word.now ≡ codes "svg" → ⊥ = search rules in
    format-left (rows_of (found_of c.args.given.now)) word.now
    (text-copied (found_of c.args.given.now) (codes "format") c.get_str.result word word.now c.get_str.ensures c.unwrap-word.ensures refl) c.requires json mermaid svg
