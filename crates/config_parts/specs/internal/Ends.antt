-- Ends and connections, as the private functions know them: slots are compared as numbers.
use Rattle.std.specs.Prelude.{Bool, true, false, ◌&&◌, not, nat_eq, ◌++◌, List, [], ◌∷◌, Option, None, Some, if◌then◌else◌}
use Rattle.std.specs.List.{filter, list_any}
use Rattle.std.specs.Ordering.{is_gt, is_lt, nat_cmp, match_ordering}
use Rattle.std.specs.declared.cmp.Ordering.{Ordering}
use Rattle.std.specs.declared.cmp.Ordering.TheVariants.{Less, Greater}
use Rattle.semantics.specs.Configurations.{path_cmp, same_path}
use Rattle.config_parts.specs.declared.connection.Connection.{Connection}
use Rattle.config_parts.specs.declared.connection.End.{End}
use Rattle.value_types.specs.declared.path.Path.{Path}

abbrev pub end_cmp : End → End → Ordering
end_cmp d e = match_ordering (path_cmp d.component e.component) Less (nat_cmp d.port e.port) Greater

abbrev pub connection : End → End → Connection
connection d e = match_ordering (end_cmp d e) (record { one = d; other = e }) (record { one = d; other = e }) (record { one = e; other = d })

abbrev pub connection_cmp : Connection → Connection → Ordering
connection_cmp k l = match_ordering (end_cmp k.one l.one) Less (end_cmp k.other l.other) Greater

-- connections with one more in its place; one that is there stays one
abbrev pub add_connection : Connection → List Connection → List Connection
add_connection new connections = filter (λ k. is_lt (connection_cmp k new)) connections ++ new ∷ filter (λ k. is_gt (connection_cmp k new)) connections

abbrev pub same_end : End → End → Bool
same_end d e = same_path d.component e.component && nat_eq d.port e.port

abbrev pub opposite : End → Connection → Option End
opposite d k = if same_end d k.one then Some k.other else if same_end d k.other then Some k.one else None

abbrev pub addressed : Option Path → End → Bool
addressed None e = true
addressed (Some path) e = same_path path e.component

-- an end that stands opposite, where it is addressed
abbrev pub if_addressed : Option Path → Option End → List End
if_addressed to None = []
if_addressed to (Some e) = if addressed to e then e ∷ [] else []

-- the ends to which a message may go
abbrev pub peers : List Connection → End → Option Path → List End
peers [] from to = []
peers (k ∷ ks) from to = if_addressed to (opposite from k) ++ peers ks from to

-- the only one
abbrev pub lone : List End → Option End
lone [] = None
lone (e ∷ []) = Some e
lone (d ∷ e ∷ ends) = None

abbrev pub peer : List Connection → End → Option Path → Option End
peer connections from to = lone (peers connections from to)

abbrev pub is_other : End → Option End → Bool
is_other e None = false
is_other e (Some found) = same_path found.component e.component && not (nat_eq found.port e.port)

abbrev pub is_double : List Connection → End → End → Bool
is_double connections d e = list_any (λ k. is_other e (opposite d k)) connections
