use Rattle.std.proofs.Common.{[], arith}
use Rattle.step_forms.proofs.Creating.{created-as, stored-children}
use Rattle.step_forms.proofs.create.create_as.Goals as goal
use Rattle.step_forms.specs.internal.Stands.{legend_of, stand_by}
use Rattle.step_snapshot.specs.Tests.{extent_of}
use Rattle.config_parts.specs.Legend.{component_by, data_by, frame_with}
use Rattle.graph_items.specs.Standing.{target_of}
use Rattle.value_types.specs.declared.value.Value.TheVariants as value

pub create_child-requires : goal.create_child-requires
create_child-requires c =
    let s = c.args.stand.now in
    let same = stored-children (stand_by s).test (target_of c.args.target.now) (value.Component c.in_ok-copy.copy) (data_by (legend_of s) c.args.own) (data_by (legend_of s) c.in_ok-own.own) c.in_ok-own.ensures.stored in
    omega (arith, same, c.requires.room)

pub returns-clause-asks : goal.returns-clause-asks
returns-clause-asks c =
    let s = c.args.stand.now in
    let legend = legend_of s in
    created-as (stand_by s) (target_of c.args.target.now) (data_by legend c.args.own) c.args.id c.in_ok-copy.copy (frame_with legend [] c.in_ok-members.members) (data_by legend c.in_ok-own.own) (data_by legend c.create_child.result) (component_by legend c.in_ok-new.new)
    c.requires.room c.in_ok-members.ensures.made c.in_ok-copy.ensures c.in_ok-own.ensures.stored (c.create_child.ensures.counted legend) c.in_ok-new.ensures.made

pub returns-clause-within : goal.returns-clause-within
returns-clause-within c =
    let size = extent_of (c.args.stand.now).snapshot.now.test.now in
    (c.in_ok-new.ensures.within c.in_ok-members.ensures.within, c.create_child.ensures.within size c.in_ok-own.ensures.within)
