use Rattle.std.proofs.Common.{ℕ, ◌-◌, List, ◌++◌, map, ap, ◌∙◌}
use Rattle.config_packed.specs.internal.Cuts.{cut_content}
use Rattle.config_packed.specs.Reading.{read_byte, read_items}
use Rattle.config_packed.specs.Pieces.{bytes_of}
use Rattle.config_packed.proofs.Cutting.{halves-cut, head-counts, head-cut}
use Rattle.config_packed.proofs.pieces.take_parts_of_halves.Goals as goal

pub returns : goal.returns
returns c going of =
    let bytes-are = c.new-reader.ensures in
    let tagged = c.byte-tag.ensures.rest ∙ ap (λ (bytes : List ℕ). (read_byte bytes).1) bytes-are in
    let count = c.take_long-count.result in
    let first = c.half-first.result in
    let counts = head-counts going c.args.head.now c.byte-tag.new.self count of.head tagged c.take_long-count.ensures.value in
    let cut = head-cut going c.args.head.now c.byte-tag.new.self c.take_long-count.new.reader c.take_sized-outline.result.now c.byte-tag.result
    of.head
    (c.byte-tag.ensures.value ∙ ap (λ (bytes : List ℕ). (read_byte bytes).0) bytes-are)
    tagged
    c.take_long-count.ensures.rest
    c.take_sized-outline.ensures.value in
    let components = halves-cut going.components count first c.args.front.now c.args.back.now
    (map bytes_of c.in_ok-components.components.items) (map bytes_of c.take_components.new.components.items) (map bytes_of c.take_components-2.new.components.items)
    counts c.half-first.ensures.half of.front of.back
    (ap (map bytes_of) c.in_ok-components.ensures.items)
    (c.in_ok-take_components.ensures ∙ ap (λ (bytes : List ℕ). map bytes_of c.in_ok-components.components.items ++ (read_items cut_content first bytes).0) c.new-reader_of_front.ensures)
    (c.in_ok-take_components-2.ensures ∙ ap (λ (bytes : List ℕ). map bytes_of c.take_components.new.components.items ++ (read_items cut_content (count - first) bytes).0) c.new-reader_of_back.ensures) in
    record { head = of.head; outline = cut.0; components = components; mappings = cut.1 }
