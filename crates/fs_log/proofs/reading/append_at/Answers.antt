use Rattle.std.proofs.Common.{◌≡◌, ◌∙◌, refl, subst, sym}
use Rattle.lang_log.specs.Spelling.{BeginsWith}
use Rattle.fs_commands.specs.Opened.{blocks_in}
use Rattle.lang_tree.specs.declared.command.Refusal.TheVariants.{NoMemory}
use Rattle.fs_log.specs.declared.refusal.LogRefusal.TheVariants.{Fs as FsRefused}
use Rattle.fs_log.specs.Causes.{ReadsSegment}
use Rattle.fs_log.specs.Refusals.{is_of_none}
use Rattle.fs_log.proofs.Causes.{lacking, passed_on}
use Rattle.fs_log.proofs.Ways.{asks_only}
use Rattle.fs_log.proofs.Windows.{append_is, are_short, begins_with_next}
use Rattle.fs_log.proofs.reading.append_at.Goals as goal

pub returns-clause-bytes : goal.returns-clause-bytes
returns-clause-bytes g c = λ told s others h first at.
    append_is c.appends_are_read_back.ensures s c.args.offset others at (are_short s (g.S.Blocks.state (blocks_in c.args.fs.now)) h) c.in_ok-window.window (c.in_ok-window.ensures.bytes told s h first)
    c.in_ok-copy.copy (subst (λ q. BeginsWith q c.in_ok-copy.copy) c.as_slice.ensures (subst (λ q. BeginsWith c.as_slice.result.now q) (sym c.in_ok-copy.ensures) c.in-Some.ensures.found))

pub returns-in_err-window-clause-cause : goal.returns-in_err-window-clause-cause
returns-in_err-window-clause-cause g c = λ has. passed_on c.from_residual.result c.in_err-window.field-0.0 _ c.from_residual.ensures.1 (c.in_err-window.ensures.cause has)

pub returns-in_default-clause-cause : goal.returns-in_default-clause-cause
returns-in_default-clause-cause g c = λ has. (
  λ told.
      let at = has told in
      let s = at.has.segment in
      let next = begins_with_next c.appends_are_read_back.ensures s c.args.offset at.others at.at (are_short s (g.S.Blocks.state (blocks_in c.args.fs.now)) at.has.holds)
      c.in_ok-window.window (c.in_ok-window.ensures.bytes told s at.has.holds at.has.begins) at.has.some in
      c.in_default.ensures.none refl next.0 (subst (λ q. BeginsWith q next.0) (sym c.as_slice.ensures) next.1),
  c.in_ok-window.ensures.was,
)

pub returns-in_err-copy-clause-cause : goal.returns-in_err-copy-clause-cause
returns-in_err-copy-clause-cause g c = λ has.
    passed_on c.from_residual-in_err-copy.result (FsRefused NoMemory) _ c.from_residual-in_err-copy.ensures.1
    (lacking g.S.Blocks.tells g.S.Blocks.state is_of_none (ReadsSegment c.args.first) (blocks_in c.args.fs.now) (blocks_in c.read.new.fs)
    (λ told. asks_only g.S.Blocks.tells g.S.Blocks.state (ReadsSegment c.args.first) (blocks_in c.args.fs.now) (blocks_in c.read.new.fs) (c.read.ensures.asks told).way))
