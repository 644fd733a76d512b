use Rattle.std.proofs.Common.{subst, sym, map, ◌≡◌, ◌∙◌}
use Rattle.std.specs.Prelude.{string_bytes}
use Rattle.clap.specs.Words.{found_of}
use Rattle.cmd_words.specs.Words.{IsInRange, request_of}
use Rattle.cmd_words.proofs.Asked.{asked_range}
use Rattle.cmd_words.proofs.Program.{name_is, parsed_request, read_request, refused_request}
use Rattle.cmd_words.proofs.request.read_words.Goals as goal

pub returns-in-Some-clause-exact : goal.returns-in-Some-clause-exact
returns-in-Some-clause-exact c =
    let words = map string_bytes c.args.words.now in
    let entered = parsed_request _ words _ _ c.in_ok-command.ensures c.in-Ok.ensures.kinds c.in-Ok.ensures.matches in
    read_request words _ c.in-Some.name.now (found_of c.in-Some.found.now) _ entered (c.in-Some.ensures.name ∙ name_is _ _ _) c.in-Some.ensures.rows c.in_ok-request-in-Some.ensures

pub returns-in-Some-clause-range : goal.returns-in-Some-clause-range
returns-in-Some-clause-range c =
    let words = map string_bytes c.args.words.now in
    let entered = parsed_request _ words _ _ c.in_ok-command.ensures c.in-Ok.ensures.kinds c.in-Ok.ensures.matches in
    let exact : c.in_ok-request-in-Some.request ≡ request_of c.args.words.now =
    read_request words _ c.in-Some.name.now (found_of c.in-Some.found.now) _ entered (c.in-Some.ensures.name ∙ name_is _ _ _) c.in-Some.ensures.rows c.in_ok-request-in-Some.ensures in
    subst IsInRange (sym exact) (asked_range words)

pub returns : goal.returns
returns c =
    let words = map string_bytes c.args.words.now in
    let none = refused_request _ words c.in-Err.error c.in_ok-command.ensures c.in-Err.ensures.kinds (λ e. c.in_default.not-OutOfMemory (c.kind.ensures ∙ e)) in
    record { exact = sym none; range = tt }
