-- Behind the lines before it a front of a line was taken.
use Rattle.std.proofs.Common.{◌++◌, ℕ, List, decimal, Result, Ok, Err, OnErr, rules, subst}
use Rattle.std.specs.Prelude.{codes}
use Rattle.std.specs.Io.KnownBytes.{Appends}
use Rattle.hex.specs.Hex.{encode_lower}
use Rattle.base_io.specs.Prefix.{TakesPrefix}
use Rattle.cmd_load.specs.Summary.{Totals, summary_text}
use Rattle.cmd_load.proofs.summary.Summary.write.Goals as goal

-- what holds anyway holds on an error
on_err : {T E : Type 0} (r : Result T E) (P : Type 0) → P → OnErr r P
on_err (Ok x) P p = tt
on_err (Err e) P p = p

-- a line of words and a number
abbrev line : List ℕ → ℕ → List ℕ
line words n = words ++ (decimal n ++ codes "\n")

abbrev last : List ℕ → List ℕ
last digest = codes "tree " ++ (encode_lower digest ++ codes "\n")

pub returns-in_err-write_numbered_line-clause-front : goal.returns-in_err-write_numbered_line-clause-front
returns-in_err-write_numbered_line-clause-front g c =
    let t : Totals = record { commands = c.self.inside.commands; refused = c.self.inside.refused; points = c.self.inside.points; digest = c.self.inside.digest } in
    let front : TakesPrefix (g.K.Sink.taken c.args.out.now) (g.K.Sink.taken c.write_numbered_line.new.out) (line (codes "commands ") t.commands) = search rules in
    on_err _ _ (subst (λ (x : Totals). TakesPrefix (g.K.Sink.taken c.args.out.now) (g.K.Sink.taken c.write_numbered_line.new.out) (summary_text x)) c.self.view_is
    (c.prefixes_join.ensures.first _ _ (line (codes "commands ") t.commands) (line (codes "refused ") t.refused ++ (line (codes "points ") t.points ++ last t.digest)) front))

pub returns-in_err-write_numbered_line-2-clause-front : goal.returns-in_err-write_numbered_line-2-clause-front
returns-in_err-write_numbered_line-2-clause-front g c =
    let t : Totals = record { commands = c.self.inside.commands; refused = c.self.inside.refused; points = c.self.inside.points; digest = c.self.inside.digest } in
    let one : Appends (g.K.Sink.taken c.args.out.now) (g.K.Sink.taken c.write_numbered_line.new.out) (line (codes "commands ") t.commands) = search rules in
    let front : TakesPrefix (g.K.Sink.taken c.write_numbered_line.new.out) (g.K.Sink.taken c.write_numbered_line-2.new.out) (line (codes "refused ") t.refused) = search rules in
    on_err _ _ (subst (λ (x : Totals). TakesPrefix (g.K.Sink.taken c.args.out.now) (g.K.Sink.taken c.write_numbered_line-2.new.out) (summary_text x)) c.self.view_is
    (c.prefixes_join.ensures.second _ _ _ (line (codes "commands ") t.commands) (line (codes "refused ") t.refused ++ (line (codes "points ") t.points ++ last t.digest)) one
    (c.prefixes_join.ensures.first _ _ (line (codes "refused ") t.refused) (line (codes "points ") t.points ++ last t.digest) front)))

pub returns-in_err-write_numbered_line-3-clause-front : goal.returns-in_err-write_numbered_line-3-clause-front
returns-in_err-write_numbered_line-3-clause-front g c =
    let t : Totals = record { commands = c.self.inside.commands; refused = c.self.inside.refused; points = c.self.inside.points; digest = c.self.inside.digest } in
    let one : Appends (g.K.Sink.taken c.args.out.now) (g.K.Sink.taken c.write_numbered_line.new.out) (line (codes "commands ") t.commands) = search rules in
    let two : Appends (g.K.Sink.taken c.write_numbered_line.new.out) (g.K.Sink.taken c.write_numbered_line-2.new.out) (line (codes "refused ") t.refused) = search rules in
    let front : TakesPrefix (g.K.Sink.taken c.write_numbered_line-2.new.out) (g.K.Sink.taken c.write_numbered_line-3.new.out) (line (codes "points ") t.points) = search rules in
    on_err _ _ (subst (λ (x : Totals). TakesPrefix (g.K.Sink.taken c.args.out.now) (g.K.Sink.taken c.write_numbered_line-3.new.out) (summary_text x)) c.self.view_is
    (c.prefixes_join.ensures.second _ _ _ (line (codes "commands ") t.commands) (line (codes "refused ") t.refused ++ (line (codes "points ") t.points ++ last t.digest)) one
    (c.prefixes_join.ensures.second _ _ _ (line (codes "refused ") t.refused) (line (codes "points ") t.points ++ last t.digest) two
    (c.prefixes_join.ensures.first _ _ (line (codes "points ") t.points) (last t.digest) front))))

pub returns-in_err-write_digest_line-clause-front : goal.returns-in_err-write_digest_line-clause-front
returns-in_err-write_digest_line-clause-front g c =
    let t : Totals = record { commands = c.self.inside.commands; refused = c.self.inside.refused; points = c.self.inside.points; digest = c.self.inside.digest } in
    let one : Appends (g.K.Sink.taken c.args.out.now) (g.K.Sink.taken c.write_numbered_line.new.out) (line (codes "commands ") t.commands) = search rules in
    let two : Appends (g.K.Sink.taken c.write_numbered_line.new.out) (g.K.Sink.taken c.write_numbered_line-2.new.out) (line (codes "refused ") t.refused) = search rules in
    let three : Appends (g.K.Sink.taken c.write_numbered_line-2.new.out) (g.K.Sink.taken c.write_numbered_line-3.new.out) (line (codes "points ") t.points) = search rules in
    let front : TakesPrefix (g.K.Sink.taken c.write_numbered_line-3.new.out) (g.K.Sink.taken c.write_digest_line.new.out) (last t.digest) = search rules in
    on_err _ _ (subst (λ (x : Totals). TakesPrefix (g.K.Sink.taken c.args.out.now) (g.K.Sink.taken c.write_digest_line.new.out) (summary_text x)) c.self.view_is
    (c.prefixes_join.ensures.second _ _ _ (line (codes "commands ") t.commands) (line (codes "refused ") t.refused ++ (line (codes "points ") t.points ++ last t.digest)) one
    (c.prefixes_join.ensures.second _ _ _ (line (codes "refused ") t.refused) (line (codes "points ") t.points ++ last t.digest) two
    (c.prefixes_join.ensures.second _ _ _ (line (codes "points ") t.points) (last t.digest) three front))))
