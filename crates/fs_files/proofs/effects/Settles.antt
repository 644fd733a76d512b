-- Calls that look, or settle, one behind the other.
use Rattle.std.proofs.Common.{◌≡◌, ℕ, ◌+◌, ◌<◌, ◌≤◌, Bool, false, IsTrue, length, ap, arith, rules}
use Rattle.std.proofs.lemmas.Bool.Decides.{nat_tests}
use Rattle.engine_blocks.specs.State.{Bookkeeping, State, reusable_blocks}
use Rattle.engine_blocks.specs.Calls.{MovesPipeline}
use Rattle.engine_blocks.specs.Effects.{ChangesNothing, RunsPipeline}
use Rattle.engine_blocks.specs.Serving.{SameFreed, with_all_served}
use Rattle.engine_blocks.specs.Crashes.{Advances}
use Rattle.fs_files.specs.Effects.{LooksOnly, LooksAndSettles, ServesAllOrNone}

-- bookkeeping that is the same moves nothing
same_moves : (old new : Bookkeeping) → new ≡ old → MovesPipeline old new
same_moves old new e = search (rules, arith)

same_freed : (old new : Bookkeeping) → new ≡ old → SameFreed old new
same_freed old new e = record { reusable = λ b at. ap (λ (k : Bookkeeping). k.reusable b) e; since = λ b at. ap (λ (k : Bookkeeping). k.since b) e }

-- what serves again in two calls
pub serves_on : (a b c : Bookkeeping) → b.geom ≡ a.geom → ServesAllOrNone a b → ServesAllOrNone b c → ServesAllOrNone a c
serves_on a b c geom one two = grind (arith, nat_tests)

-- a call that only looks may be one that settles
pub looks_settle : (tells failed : Bool) (old new : State) → old.books.stopped ≡ false → LooksOnly tells failed old new → (IsTrue tells → Advances old new) → LooksAndSettles tells failed false old new
looks_settle tells failed old new going k later = search (rules, arith, same_moves, same_freed)

-- the search for the n lowest numbers settles where fewer may be taken
pub settles_lowest : (tells failed : Bool) (n : ℕ) (old new : State) → RunsPipeline tells failed old new → new.counts.ticks ≡ old.counts.ticks
    → (n ≤ length (reusable_blocks old.books) → ChangesNothing tells old new)
    → (length (reusable_blocks old.books) < n → failed ≡ false → SameFreed (with_all_served old.books) new.books)
    → LooksAndSettles tells false failed old new
settles_lowest tells failed n old new runs ticks looks all = search (rules, arith, same_freed)

-- two such calls, of which the first failed nowhere
pub settles_more : (tells read_failed failed : Bool) (a b c : State) → a.books.geom ≡ b.books.geom → LooksAndSettles tells false false a b → LooksAndSettles tells read_failed failed b c
    → (IsTrue tells → Advances a b → Advances b c → Advances a c) → c.books.turns ≤ a.books.turns + 262144
    → LooksAndSettles tells read_failed failed a c
settles_more tells read_failed failed a b c geom h k compose turns = search (rules, arith, serves_on)
