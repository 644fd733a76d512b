-- Behind the line of the point a front of the listing was taken.
use Rattle.std.proofs.Common.{◌≡◌, Result, Ok, Err, OnErr, rules, subst}
use Rattle.base_io.specs.Prefix.{TakesPrefix}
use Rattle.cmd_replay.specs.Replays.{Found, found_text, point_line}
use Rattle.cmd_replay.proofs.replaying.Replayed.write.Goals as goal

-- what holds anyway holds on an error
on_err : {T E : Type 0} (r : Result T E) (P : Type 0) → P → OnErr r P
on_err (Ok x) P p = tt
on_err (Err e) P p = p

pub returns-in_err-push_all-clause-front : goal.returns-in_err-push_all-clause-front
returns-in_err-push_all-clause-front g c =
    let view : Found = record { text = c.self.inside.text.items; point = c.self.inside.point } in
    let text : c.as_slice.result.now ≡ view.text = search rules in
    on_err _ _ (subst (λ (f : Found). TakesPrefix (g.K.Sink.taken c.args.out.now) (g.K.Sink.taken c.push_all.new.out) (found_text f)) c.self.view_is
    (c.prefixes_join.ensures.second _ _ _ (point_line view.point) view.text c.in_ok-write_point.ensures.all
    (subst (TakesPrefix (g.K.Sink.taken c.write_point.new.out) (g.K.Sink.taken c.push_all.new.out)) text c.in_err-push_all.ensures.front)))
