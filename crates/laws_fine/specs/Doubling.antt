-- The fine run of a run: each step at an `alt` becomes a snapshot and the choice by it.
use Rattle.std.specs.Prelude.{Bool, true, false, List, [], ◌∷◌}
use Rattle.semantics.specs.Configurations.{Configuration, Ended, Goes}
use Rattle.semantics.specs.Runs.{graph_of, start}
use Rattle.semantics.specs.Snapshots.{Test}
use Rattle.semantics.specs.Steps.{Delivery, Expiry, Label, Statement}
use Rattle.laws_fine.specs.Fine.{Choose, FineLabel, Plain, Snap, is_of_alt}

-- the fine labels of a label, in front of others
abbrev pub doubled_label : Bool → Label → List FineLabel → List FineLabel
doubled_label true (Statement path) others = Snap path ∷ Choose path ∷ others
doubled_label true (Expiry path number name) others = Plain (Expiry path number name) ∷ others
doubled_label true (Delivery system_port) others = Plain (Delivery system_port) ∷ others
doubled_label false label others = Plain label ∷ others

-- a label is the statement of an `alt`
abbrev pub is_alt_in : Test → Configuration → Label → Bool
is_alt_in test (Ended v) label = false
is_alt_in test (Goes c) label = is_of_alt test c label

-- the fine labels of labels that follow from a configuration
abbrev pub doubled_from : Test → Configuration → List Label → List FineLabel
doubled_from test c [] = []
doubled_from test c (label ∷ labels) = doubled_label (is_alt_in test c label) label (doubled_from test ((graph_of test).after c label) labels)

-- the doubling of a run
abbrev pub doubled : Test → List Label → List FineLabel
doubled test labels = doubled_from test (start test) labels
