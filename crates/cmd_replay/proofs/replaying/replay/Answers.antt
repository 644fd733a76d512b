-- What was found in the image of the crash, and of the points with its listing those with its tree.
use Rattle.std.proofs.Common.{◌≡◌, List, ap, ◌∙◌, subst}
use Rattle.disk_contract.specs.declared.event.Event.{Event}
use Rattle.layout_geometry.specs.Geometry.{Geometry}
use Rattle.cmd_trace.specs.Contents.{Contents}
use Rattle.cmd_replay.specs.Newest.{IsNewest}
use Rattle.cmd_replay.specs.Points.{points_in, floor_at, top_at}
use Rattle.cmd_replay.specs.Replays.{LeavesImage}
use Rattle.cmd_replay.specs.Walking.{IsListedAs}
use Rattle.cmd_replay.proofs.SameTrees.{newest}
use Rattle.cmd_replay.proofs.replaying.replay.Goals as goal

pub returns : goal.returns
returns c =
    let image = c.in_ok-image.image in
    let choice = c.args.choice.now in
    let moment = c.args.moment in
    let trace : Contents = c.args.trace in
    let geom : c.geom.result.now ≡ trace.geometry = c.geom.ensures ∙ ap (λ (k : Contents). k.geometry) c.take_log-log.ensures.rest in
    let leaves = subst (λ (g : Geometry). LeavesImage g trace.log moment choice image) geom
    (subst (λ (l : List Event). LeavesImage c.geom.result.now l moment choice image) c.take_log-log.ensures.log c.in_ok-image.ensures.image) in
    let listed = c.in_ok-text.ensures.listed in
    let found = subst (λ (k : Contents). IsNewest (IsListedAs c.as_slice.result.now) (points_in k) (floor_at moment k) (top_at moment k) c.in_ok-point.point) c.take_log-log.ensures.rest c.in_ok-point.ensures in (
      image,
      leaves,
      record {
        tree = listed.0;
        stands = listed.1;
        text = listed.2;
        newest = newest trace c.requires
            (record {
              listings = c.a_listing_says_the_tree.ensures.alike;
              alike = c.a_listing_says_the_tree.ensures.listing;
              points = c.points_of_a_trace_have_lawful_names.ensures.names trace c.requires;
              bytes = c.points_of_a_trace_have_lawful_names.ensures.bytes trace c.requires;
              stands = c.what_stands_has_lawful_names.ensures.names;
            })
            _ _ listed.0 c.as_slice.result.now listed.1.stands (c.as_slice.ensures.value ∙ listed.2) _ _ c.in_ok-point.point found;
      },
    )
