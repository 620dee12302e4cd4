use Rattle.std.proofs.Common.{List, ◌++◌, ap, ◌∙◌}
use Rattle.std.specs.List.{flat_map}
use Rattle.config_parts.specs.declared.config.Config.TheVariants as config
use Rattle.config_packed.specs.internal.Cuts.{joined, shortened_parts}
use Rattle.config_packed.specs.Pieces.{bytes_of, shortened_going}
use Rattle.config_packed.specs.declared.pieces.ComponentBytes.{ComponentBytes}
use Rattle.config_packed.proofs.Shortening.{shortened-spelled}
use Rattle.config_packed.proofs.pieces.ConfigBytes.shortened.Goals as goal

pub from_bytes-requires : goal.from_bytes-requires
from_bytes-requires c =
    let put = λ (components : List ComponentBytes). c.extend_from_slice.new.self.items ++ flat_map (λ (component : ComponentBytes). joined (shortened_parts (bytes_of component))) components in (
      config.Going (shortened_going c.requires.0),
      shortened-spelled c.requires.0 c.args.self.now c.extend_from_slice.new.self.items c.put_all_shortened.new.bytes.items c.requires.1
          (c.in_ok-extend_from_slice.ensures.items ∙ ap (λ bytes. bytes ++ c.args.self.now.head.now) c.in_ok-bytes.ensures.items)
          (c.in_ok-put_all_shortened.ensures ∙ ap put c.as_slice.ensures.value),
    )

pub returns : goal.returns
returns c going cut =
    let put = λ (components : List ComponentBytes). c.extend_from_slice.new.self.items ++ flat_map (λ (component : ComponentBytes). joined (shortened_parts (bytes_of component))) components in
    c.from_bytes.ensures (config.Going (shortened_going going))
    (shortened-spelled going c.args.self.now c.extend_from_slice.new.self.items c.put_all_shortened.new.bytes.items cut
    (c.in_ok-extend_from_slice.ensures.items ∙ ap (λ bytes. bytes ++ c.args.self.now.head.now) c.in_ok-bytes.ensures.items)
    (c.in_ok-put_all_shortened.ensures ∙ ap put c.as_slice.ensures.value))
