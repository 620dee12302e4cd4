-- Where components stand, as code keeps it.
use Rattle.std.specs.Prelude.{map}
use Rattle.step_forms.specs.internal.Places.{behind_first, list_at, site_at}
use Rattle.step_forms.specs.declared.stand.Stand.{Stand}
use Rattle.semantics.specs.Sites.{Site}
use Rattle.semantics.specs.Statements as said
use Rattle.step_snapshot.specs.Seen.{own_by, seen_by}
use Rattle.step_snapshot.specs.Tests.{legend_by, test_by}
use Rattle.config_parts.specs.Legend.{Legend, frame_by}

-- the legend of the test case in which the component stands
abbrev pub legend_of : Stand → Legend
legend_of s = legend_by s.snapshot.now.test.now

-- the site of the statement
abbrev pub site_of : Stand → Site
site_of s = site_at s.snapshot.now.test.now s.frame.now.remaining

-- where the component stands, among what the rules speak of
abbrev pub stand_by : Stand → said.Stand
stand_by s = record {
  test = test_by s.snapshot.now.test.now;
  snapshot = seen_by s.snapshot.now;
  own = own_by s.snapshot.now;
  frame = frame_by (legend_of s) s.frame.now;
  below = map (frame_by (legend_of s)) (behind_first s.snapshot.now.component.now.own.calls);
  rest = list_at s.snapshot.now.test.now s.rest;
}
