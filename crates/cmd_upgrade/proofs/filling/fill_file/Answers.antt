-- Piece by piece, and all of the file in the end; or one of the disks refuses a command.
use Rattle.std.proofs.Common.{◌≡◌, ◌*◌, Err, Result, arith, rules, subst}
use Rattle.engine_store.specs.StoreOf.{state_of}
use Rattle.fs_commands.specs.Opened.{blocks_in}
use Rattle.cmd_upgrade.specs.declared.refusal.UpgradeRefusal.{UpgradeRefusal}
use Rattle.cmd_upgrade.specs.declared.refusal.UpgradeRefusal.TheVariants.{Fault}
use Rattle.cmd_upgrade.proofs.FileLoop.{WritesFile, never_large, read_stops, write_all, write_more, write_none, write_stops}
use Rattle.cmd_upgrade.proofs.Keeping.{stays_here, stays_on}
use Rattle.cmd_upgrade.proofs.PathLoop.{failed_with}
use Rattle.cmd_upgrade.proofs.filling.fill_file.Goals as goal

pub loop-piece-init : goal.loop-piece-init
loop-piece-init g c =
    let known = g.D.Disk.state in
    record {
      upto = omega arith;
      raises = omega arith;
      keeps = stays_here g.D.Disk.tells (state_of known (blocks_in c.args.image.now));
      keeps_new = stays_here g.D.Disk.tells (state_of known (blocks_in c.args.new.now));
      stays = λ told first t looked. looked;
      writes = write_none g.D.Disk.tells c.args.entry.now (state_of known (blocks_in c.args.image.now)) (state_of known (blocks_in c.args.new.now));
    }

pub loop-piece-preserved : goal.loop-piece-preserved
loop-piece-preserved g c =
    let known = g.D.Disk.state in
    let so_far = c.loop-piece.invariant in
    record {
      upto = omega (arith, c.loop-piece-test.true);
      raises = omega (arith, c.loop-piece.invariant.raises, c.bytes_at.ensures.raises);
      keeps = stays_on g.D.Disk.tells (state_of known (blocks_in c.args.image.now)) (state_of known (blocks_in c.loop-piece.image)) (state_of known (blocks_in c.bytes_at.new.served)) so_far.keeps c.bytes_at.ensures.keeps;
      keeps_new = stays_on g.D.Disk.tells (state_of known (blocks_in c.args.new.now)) (state_of known (blocks_in c.loop-piece.new)) (state_of known (blocks_in c.ask.new.served)) so_far.keeps_new c.ask.ensures.keeps;
      stays = λ told first t looked. c.bytes_at.ensures.stays told first t (so_far.stays told first t looked);
      writes = write_more g.D.Disk.tells c.args.entry.now c.loop-piece.piece (state_of known (blocks_in c.args.image.now)) (state_of known (blocks_in c.loop-piece.image)) (state_of known (blocks_in c.args.new.now))
          (state_of known (blocks_in c.loop-piece.new)) (state_of known (blocks_in c.ask.new.served)) so_far.stays so_far.writes (omega (arith, c.loop-piece-test.true, c.div_ceil-count.ensures, c.if-entry-gt-MOST_BYTES.false))
          c.in_ok-path.path c.in_ok-bytes.bytes c.in_ok-path.ensures c.in_ok-bytes.ensures.bytes c.in_ok-ask.ensures.makes;
    }

pub returns-clause-makes : goal.returns-clause-makes
returns-clause-makes g c =
    let known = g.D.Disk.state in
    let so_far = c.loop-piece.invariant in
    write_all g.D.Disk.tells c.args.entry.now c.loop-piece.piece (state_of known (blocks_in c.args.image.now)) (state_of known (blocks_in c.loop-piece.image)) (state_of known (blocks_in c.args.new.now))
    (state_of known (blocks_in c.loop-piece.new)) (state_of known (blocks_in c.loop-piece.new)) so_far.stays so_far.writes (omega (arith, c.loop-piece-test.false, c.div_ceil-count.ensures, c.if-entry-gt-MOST_BYTES.false))

pub returns-then-entry-gt-MOST_BYTES-clause-makes : goal.returns-then-entry-gt-MOST_BYTES-clause-makes
returns-then-entry-gt-MOST_BYTES-clause-makes g c =
    let known = g.D.Disk.state in
    let image = state_of known (blocks_in c.args.image.now) in
    let new = state_of known (blocks_in c.args.new.now) in
    never_large g.D.Disk.tells c.args.entry.now image image new new Fault c.if-entry-gt-MOST_BYTES.true

pub returns-then-entry-gt-MOST_BYTES-clause-keeps : goal.returns-then-entry-gt-MOST_BYTES-clause-keeps
returns-then-entry-gt-MOST_BYTES-clause-keeps g c = stays_here g.D.Disk.tells (state_of g.D.Disk.state (blocks_in c.args.image.now))

pub returns-then-entry-gt-MOST_BYTES-clause-keeps_new : goal.returns-then-entry-gt-MOST_BYTES-clause-keeps_new
returns-then-entry-gt-MOST_BYTES-clause-keeps_new g c = stays_here g.D.Disk.tells (state_of g.D.Disk.state (blocks_in c.args.new.now))

pub returns-in_err-bytes-clause-keeps : goal.returns-in_err-bytes-clause-keeps
returns-in_err-bytes-clause-keeps g c =
    let known = g.D.Disk.state in
    stays_on g.D.Disk.tells (state_of known (blocks_in c.args.image.now)) (state_of known (blocks_in c.loop-piece.image)) (state_of known (blocks_in c.bytes_at.new.served)) c.loop-piece.invariant.keeps c.bytes_at.ensures.keeps

pub returns-in_err-path-clause-keeps : goal.returns-in_err-path-clause-keeps
returns-in_err-path-clause-keeps g c =
    let known = g.D.Disk.state in
    stays_on g.D.Disk.tells (state_of known (blocks_in c.args.image.now)) (state_of known (blocks_in c.loop-piece.image)) (state_of known (blocks_in c.bytes_at.new.served)) c.loop-piece.invariant.keeps c.bytes_at.ensures.keeps

pub returns-in_err-ask-clause-keeps : goal.returns-in_err-ask-clause-keeps
returns-in_err-ask-clause-keeps g c =
    let known = g.D.Disk.state in
    stays_on g.D.Disk.tells (state_of known (blocks_in c.args.image.now)) (state_of known (blocks_in c.loop-piece.image)) (state_of known (blocks_in c.bytes_at.new.served)) c.loop-piece.invariant.keeps c.bytes_at.ensures.keeps

pub returns-in_err-ask-clause-keeps_new : goal.returns-in_err-ask-clause-keeps_new
returns-in_err-ask-clause-keeps_new g c =
    let known = g.D.Disk.state in
    stays_on g.D.Disk.tells (state_of known (blocks_in c.args.new.now)) (state_of known (blocks_in c.loop-piece.new)) (state_of known (blocks_in c.ask.new.served)) c.loop-piece.invariant.keeps_new c.ask.ensures.keeps

pub returns-in_err-bytes-clause-stays : goal.returns-in_err-bytes-clause-stays
returns-in_err-bytes-clause-stays g c = λ told first t looked. c.bytes_at.ensures.stays told first t (c.loop-piece.invariant.stays told first t looked)

pub returns-in_err-path-clause-stays : goal.returns-in_err-path-clause-stays
returns-in_err-path-clause-stays g c = λ told first t looked. c.bytes_at.ensures.stays told first t (c.loop-piece.invariant.stays told first t looked)

pub returns-in_err-ask-clause-stays : goal.returns-in_err-ask-clause-stays
returns-in_err-ask-clause-stays g c = λ told first t looked. c.bytes_at.ensures.stays told first t (c.loop-piece.invariant.stays told first t looked)

pub returns-in_err-bytes-clause-makes : goal.returns-in_err-bytes-clause-makes
returns-in_err-bytes-clause-makes g c =
    let known = g.D.Disk.state in
    let so_far = c.loop-piece.invariant in
    let same : ◌≡◌ {A = Result (Unit {0}) UpgradeRefusal} (Err c.in_err-bytes.field-0.0) c.from_residual.result = search rules in
    subst (λ (r : Result (Unit {0}) UpgradeRefusal). WritesFile g.D.Disk.tells c.args.entry.now (state_of known (blocks_in c.args.image.now)) (state_of known (blocks_in c.bytes_at.new.served)) (state_of known (blocks_in c.args.new.now)) (state_of known (blocks_in c.loop-piece.new)) r) same
    (read_stops g.D.Disk.tells c.args.entry.now c.loop-piece.piece (state_of known (blocks_in c.args.image.now)) (state_of known (blocks_in c.loop-piece.image)) (state_of known (blocks_in c.args.new.now))
    (state_of known (blocks_in c.loop-piece.new)) (state_of known (blocks_in c.bytes_at.new.served)) so_far.stays so_far.writes c.a_walk_comes_to_each_path.ensures.walk (65536 * c.loop-piece.piece) 65536 c.in_err-bytes.field-0.0 c.in_err-bytes.ensures.stops)

pub returns-in_err-ask-clause-makes : goal.returns-in_err-ask-clause-makes
returns-in_err-ask-clause-makes g c =
    let known = g.D.Disk.state in
    let so_far = c.loop-piece.invariant in
    let same = failed_with c.from_residual-in_err-ask.result c.in_err-ask.field-0.0 c.from_residual-in_err-ask.ensures in
    subst (λ (r : Result (Unit {0}) UpgradeRefusal). WritesFile g.D.Disk.tells c.args.entry.now (state_of known (blocks_in c.args.image.now)) (state_of known (blocks_in c.bytes_at.new.served)) (state_of known (blocks_in c.args.new.now)) (state_of known (blocks_in c.ask.new.served)) r) same
    (write_stops g.D.Disk.tells c.args.entry.now c.loop-piece.piece (state_of known (blocks_in c.args.image.now)) (state_of known (blocks_in c.loop-piece.image)) (state_of known (blocks_in c.args.new.now))
    (state_of known (blocks_in c.loop-piece.new)) (state_of known (blocks_in c.ask.new.served)) so_far.stays so_far.writes (omega (arith, c.loop-piece-test.true, c.div_ceil-count.ensures, c.if-entry-gt-MOST_BYTES.false))
    c.in_ok-path.path c.in_ok-bytes.bytes c.in_ok-path.ensures c.in_ok-bytes.ensures.bytes (state_of known (blocks_in c.bytes_at.new.served)) c.in_err-ask.field-0.0 c.in_err-ask.ensures.makes)

pub returns-in_err-bytes-clause-raises : goal.returns-in_err-bytes-clause-raises
returns-in_err-bytes-clause-raises g c = omega (arith, c.loop-piece.invariant.raises, c.bytes_at.ensures.raises, c.loop-piece-test.true, c.div_ceil-count.ensures, c.if-entry-gt-MOST_BYTES.false)

pub returns-in_err-path-clause-raises : goal.returns-in_err-path-clause-raises
returns-in_err-path-clause-raises g c = omega (arith, c.loop-piece.invariant.raises, c.bytes_at.ensures.raises, c.loop-piece-test.true, c.div_ceil-count.ensures, c.if-entry-gt-MOST_BYTES.false)

pub returns-in_err-ask-clause-raises : goal.returns-in_err-ask-clause-raises
returns-in_err-ask-clause-raises g c = omega (arith, c.loop-piece.invariant.raises, c.bytes_at.ensures.raises, c.loop-piece-test.true, c.div_ceil-count.ensures, c.if-entry-gt-MOST_BYTES.false)

pub returns-clause-raises : goal.returns-clause-raises
returns-clause-raises g c = omega (arith, c.loop-piece.invariant.raises, c.loop-piece.invariant.upto, c.div_ceil-count.ensures, c.if-entry-gt-MOST_BYTES.false)

pub returns-then-entry-gt-MOST_BYTES-clause-raises : goal.returns-then-entry-gt-MOST_BYTES-clause-raises
returns-then-entry-gt-MOST_BYTES-clause-raises g c = omega arith
