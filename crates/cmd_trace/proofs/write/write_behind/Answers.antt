use Rattle.std.proofs.Common.{Result, Ok, Err, OnErr}
use Rattle.cmd_trace.proofs.write.write_behind.Goals as goal

-- what holds anyway holds on an error
on_err : {T E : Type 0} (r : Result T E) (P : Type 0) → P → OnErr r P
on_err (Ok x) P p = tt
on_err (Err e) P p = p

-- a front of the head
pub returns-in_err-push_all-clause-front : goal.returns-in_err-push_all-clause-front
returns-in_err-push_all-clause-front g c = on_err _ _ (c.prefixes_join.ensures.first _ _ c.args.head.now _ c.in_err-push_all.ensures.front)

-- the head, and a front of the text
pub returns-in_err-push_all-2-clause-front : goal.returns-in_err-push_all-2-clause-front
returns-in_err-push_all-2-clause-front g c =
    on_err _ _ (c.prefixes_join.ensures.second _ _ _ c.args.head.now _ c.in_ok-push_all.ensures.all (c.prefixes_join.ensures.first _ _ c.args.text.now _ c.in_err-push_all-2.ensures.front))

-- the head, the text, and a front of the line feed
pub returns-in_err-push_all-3-clause-front : goal.returns-in_err-push_all-3-clause-front
returns-in_err-push_all-3-clause-front g c =
    on_err _ _ (c.prefixes_join.ensures.second _ _ _ c.args.head.now _ c.in_ok-push_all.ensures.all (c.prefixes_join.ensures.second _ _ _ c.args.text.now _ c.in_ok-push_all-2.ensures.all c.in_err-push_all-3.ensures.front))
