use Rattle.std.proofs.Common.{◌≡◌, ap, arith, refl, Bool, false, IsTrue}
use Rattle.engine_blocks.specs.Crashes.{IsTold}
use Rattle.engine_blocks.specs.Effects.{RunsPipeline}
use Rattle.engine_blocks.specs.Serving.{SameFreed}
use Rattle.engine_blocks.specs.State.{State}
use Rattle.engine_store.specs.declared.parts.StoreParts.{StoreParts}
use Rattle.engine_store.specs.Store.{bookkeeping_of}
use Rattle.engine_store.proofs.Freeing.{waited_still}
use Rattle.engine_store.proofs.StoreStates.{goes_on_itself}
use Rattle.engine_store.proofs.store.StoreBlocks.wait_for.Goals as goal

-- nothing is done
runs_nothing : (tells : Bool) (s : State) → s.books.stopped ≡ false → (IsTrue tells → IsTold s) → RunsPipeline tells false s s
runs_nothing tells s going told = record {
  pipeline = record {
    geom = refl;
    running = refl;
    spare = refl;
    marked = refl;
    reusable = λ b may. may.free;
    waiting = omega arith;
    area = refl;
    room = refl;
    free_places = omega arith;
    turns = omega arith;
    point = refl;
    floor = omega arith;
  };
  disk = record { faults = refl; stopped = going; read_faults = refl; waits = omega arith };
  map = λ t. refl;
  crash = λ t. goes_on_itself s (told t);
  writes = λ t. omega arith;
  told = λ t. refl;
}

-- the same blocks wait, where the books are the same
same_freed : (v w : StoreParts) → w.books ≡ v.books → w.first ≡ v.first → w.point ≡ v.point → SameFreed (bookkeeping_of v) (bookkeeping_of w)
same_freed v w books first point =
    let same = waited_still v w books first point in
    record { reusable = λ b at. ap (λ f. f b) same.0; since = λ b at. ap (λ f. f b) same.1 }

pub invariant_of-self : goal.invariant_of-self
invariant_of-self g c = record {
  kept = c.wait_for_point.ensures.kept;
  sound = c.a_store_that_is_kept_is_told.ensures.sound g.D.Disk.tells c.wait_for_point.new.parts (g.D.Disk.state c.wait_for_point.new.disk) (c.wait_for_point.ensures.kept);
  told = λ on ticks. c.a_store_that_is_kept_is_told.ensures.told g.D.Disk.tells c.wait_for_point.new.parts ticks (g.D.Disk.state c.wait_for_point.new.disk) (c.wait_for_point.ensures.kept) on;
}

pub returns-then-n-last-clause-moves : goal.returns-then-n-last-clause-moves
returns-then-n-last-clause-moves g c = runs_nothing g.D.Disk.tells _ c.requires.going (λ on. c.args.self.now.told on c.args.self.now.ticks)

pub returns-then-n-self-clause-moves : goal.returns-then-n-self-clause-moves
returns-then-n-self-clause-moves g c = runs_nothing g.D.Disk.tells _ c.requires.going (λ on. c.args.self.now.told on c.args.self.now.ticks)

pub returns-in-Ok-clause-moves : goal.returns-in-Ok-clause-moves
returns-in-Ok-clause-moves g c = c.in-Ok.ensures.runs c.args.self.now.ticks _

pub returns-in-Ok-clause-frees : goal.returns-in-Ok-clause-frees
returns-in-Ok-clause-frees g c = same_freed c.args.self.now.parts c.wait_for_point.new.parts c.wait_for_point.ensures.books c.in-Ok.ensures.moves.first c.in-Ok.ensures.moves.point

pub returns-in-Ok-clause-ticks : goal.returns-in-Ok-clause-ticks
returns-in-Ok-clause-ticks g c = c.in-Ok.ensures.asks c.args.self.now.ticks

pub returns-in-Ok-clause-waits : goal.returns-in-Ok-clause-waits
returns-in-Ok-clause-waits g c = c.in-Ok.ensures.waits c.args.self.now.ticks c.args.self.now.ticks

pub returns-in-Err-clause-moves : goal.returns-in-Err-clause-moves
returns-in-Err-clause-moves g c = c.in-Err.ensures.runs c.args.self.now.ticks _

pub returns-in-Err-clause-frees : goal.returns-in-Err-clause-frees
returns-in-Err-clause-frees g c = same_freed c.args.self.now.parts c.wait_for_point.new.parts c.wait_for_point.ensures.books c.in-Err.ensures.moves.first c.in-Err.ensures.moves.point

pub returns-in-Err-clause-ticks : goal.returns-in-Err-clause-ticks
returns-in-Err-clause-ticks g c = c.in-Err.ensures.asks c.args.self.now.ticks

pub returns-in-Err-clause-waits : goal.returns-in-Err-clause-waits
returns-in-Err-clause-waits g c = c.in-Err.ensures.waits c.args.self.now.ticks c.args.self.now.ticks
