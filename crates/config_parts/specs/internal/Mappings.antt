-- Mappings, as the private functions know them: slots are compared as numbers.
use Rattle.std.specs.Prelude.{ℕ, ◌+◌, Bool, ◌&&◌, ◌||◌, not, nat_eq, List, if◌then◌else◌}
use Rattle.std.specs.List.{filter, find, list_any}
use Rattle.std.specs.Option.{option_map, unwrap_or}
use Rattle.semantics.specs.Configurations.{same_path}
use Rattle.config_parts.specs.internal.Ends.{same_end}
use Rattle.config_parts.specs.internal.Expiries.{is_of_slot}
use Rattle.config_parts.specs.internal.Stored.{put}
use Rattle.config_parts.specs.declared.connection.Connection.{Connection}
use Rattle.config_parts.specs.declared.connection.End.{End}
use Rattle.config_parts.specs.declared.connection.Links.{Links}
use Rattle.value_types.specs.declared.path.Path.{Path}

abbrev pub is_mapped : List (ℕ × End) → End → Bool
is_mapped mappings e = list_any (λ m. same_end e m.1) mappings

abbrev pub is_connected : List Connection → End → Bool
is_connected connections e = list_any (λ k. same_end e k.one || same_end e k.other) connections

abbrev pub maps_otherwise : End → ℕ → ℕ × End → Bool
maps_otherwise e system_port m = if same_end e m.1 then not (nat_eq m.0 system_port) else nat_eq m.0 system_port

abbrev pub is_of : Path → ℕ × End → Bool
is_of path m = same_path m.1.component path

-- the same connections, with other mappings
abbrev pub with_mappings : List (ℕ × End) → Links → Links
with_mappings mappings links = record { connections = links.connections; mappings = mappings; delivered = links.delivered }

abbrev pub without_mapping : End → ℕ → List (ℕ × End) → List (ℕ × End)
without_mapping e system_port mappings = filter (λ m. not (same_end e m.1 && nat_eq m.0 system_port)) mappings

abbrev pub unmap_port : End → ℕ → Links → Links
unmap_port e system_port links = with_mappings (without_mapping e system_port links.mappings) links

abbrev pub without_ports : Path → List (ℕ × End) → List (ℕ × End)
without_ports path mappings = filter (λ m. not (is_of path m)) mappings

abbrev pub without_component : Path → Links → Links
without_component path links = with_mappings (without_ports path links.mappings) links

-- a mapping of a port to a system port; one that is there stays one
abbrev pub with_mapping : End → ℕ → Links → Links
with_mapping e system_port links = with_mappings (put system_port e links.mappings) links

-- ---- messages that came in

-- how many messages came in at a system port
abbrev pub count_at : List (ℕ × ℕ) → ℕ → ℕ
count_at delivered system_port = unwrap_or (option_map (λ e. e.1) (find (is_of_slot system_port) delivered)) 0

-- one more message came in at a system port
abbrev pub with_delivery : ℕ → Links → Links
with_delivery system_port links = record {
  connections = links.connections;
  mappings = links.mappings;
  delivered = put system_port (count_at links.delivered system_port + 1) links.delivered;
}
