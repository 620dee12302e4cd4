use Rattle.std.proofs.Common.{ℕ, List, ◌++◌, map, ap, ◌∙◌}
use Rattle.config_packed.specs.Pieces.{bytes_of}
use Rattle.config_packed.specs.Reading.{read_byte, read_items}
use Rattle.config_packed.specs.declared.pieces.ComponentBytes.{ComponentBytes}
use Rattle.config_packed.specs.internal.Cuts.{cut_content}
use Rattle.config_packed.proofs.Cutting.{parts-cut}
use Rattle.config_packed.proofs.pieces.take_parts.Goals as goal

pub returns : goal.returns
returns c going is =
    let cut = parts-cut going c.args.bytes.now c.byte-tag.new.self c.take_long-count.new.reader c.take_sized-outline.new.reader c.since-head.result.now c.take_sized-outline.result.now c.byte-tag.result c.take_long-count.result (map bytes_of c.take_components.new.components.items)
    is
    (c.byte-tag.ensures.value ∙ ap (λ (bytes : List ℕ). (read_byte bytes).0) c.new-reader.ensures)
    (c.byte-tag.ensures.rest ∙ ap (λ (bytes : List ℕ). (read_byte bytes).1) c.new-reader.ensures)
    c.take_long-count.ensures.value
    c.take_long-count.ensures.rest
    c.take_sized-outline.ensures.value
    c.take_sized-outline.ensures.rest
    c.since-head.ensures
    (c.in_ok-take_components.ensures ∙ ap (λ (xs : List ComponentBytes). map bytes_of xs ++ (read_items cut_content c.take_long-count.result c.take_sized-outline.new.reader).0) c.in_ok-components.ensures.items) in
    record { head = cut.0; outline = cut.1; components = cut.2; mappings = cut.3 }
