-- What holds of each map of blocks in memory.
use Rattle.std.proofs.Common.{◌≡◌, ℕ, ◌-◌, ◌<◌, ◌&&◌, true, filter, length, refl, sym, ap, ◌∙◌, arith}
use Rattle.std.proofs.lemmas.Bool.{not-true, lt-ltb}
use Rattle.base_types.specs.Seal.{blocks_of}
use Rattle.layout_geometry.specs.Geometry.{data_start}
use Rattle.layout_bytes.specs.Bitmap.{is_set}
use Rattle.engine_blocks.specs.declared.role.Role.{Role}
use Rattle.engine_blocks.specs.declared.role.Role.TheVariants.{Untouched, Changed, Bare, NewMeta, Fresh}
use Rattle.engine_blocks.specs.declared.plain.PlainBlocks.{PlainBlocks}
use Rattle.engine_blocks.specs.Running.{is_fresh, is_taken}
use Rattle.engine_blocks.specs.Calls.{IsSound}
use Rattle.engine_blocks.specs.Crashes.{IsTold}
use Rattle.engine_blocks.specs.Plain.{role_in}
use Rattle.engine_blocks.specs.PlainOf.{books_of, state_of}
use Rattle.engine_blocks.specs.State.{live_blocks, data_blocks}
use Rattle.engine_blocks.specs.Defined.{defined_at, undefined_at, disk_bit}
use Rattle.engine_blocks.specs.Ranges.{parts_from, fewer_from, same_from}

-- what is fresh was taken
fresh_taken : (role : Role) → is_fresh role ≡ true → is_taken role ≡ true
fresh_taken Untouched e = e
fresh_taken Changed e = e
fresh_taken Bare e = refl
fresh_taken NewMeta e = refl
fresh_taken Fresh e = refl

-- a number of a block of the disk is marked where its bit is set
pub marked_is : (p : PlainBlocks) (b : ℕ) → b < p.geom.n → (books_of p).marked b ≡ is_set p.geom (blocks_of p.history.now) b
marked_is p b low = ap (λ x. x && is_set p.geom (blocks_of p.history.now) b) (lt-ltb b p.geom.n low)

-- its number of live blocks counts the marked ones
pub live_counted : (p : PlainBlocks) → p.live ≡ length (live_blocks (books_of p))
live_counted p =
    omega (arith, p.live_is, parts_from (λ b. is_set p.geom (blocks_of p.history.now) b) (data_start p.geom) (p.geom.n - data_start p.geom), ap length marks)
  where
    marks : live_blocks (books_of p) ≡ filter (λ b. is_set p.geom (blocks_of p.history.now) b) (data_blocks p.geom)
    marks = same_from (books_of p).marked (λ b. is_set p.geom (blocks_of p.history.now) b) (data_start p.geom) (p.geom.n - data_start p.geom) (λ b from below. marked_is p b (omega (arith, from, below)))

pub plain_is_sound : (p : PlainBlocks) → IsSound (books_of p)
plain_is_sound p = record {
  accounts = omega (arith, p.accounts, live_counted p);
  area = omega arith;
  unmarked = λ b may. marked_is p b may.below ∙ p.unmarked b (record { from = may.from; below = may.below; clear = not-true _ may.free });
  fits = p.fits;
  room = omega arith;
  took = omega (arith, p.took_them, fewer_from (λ b. is_taken (role_in p.roles.items b)) (λ b. is_fresh (role_in p.roles.items b)) 0 p.geom.n (λ k low. fresh_taken (role_in p.roles.items k)));
  floor = omega (arith, p.floor_is);
  free_places = omega arith;
}

pub plain_is_told : (p : PlainBlocks) → IsTold (state_of p)
plain_is_told p = record {
  now = λ m left. ∣ record { point = left.point; from = left.from; upto = omega (arith, left.kept.below); map = m; holds = refl; is = left.kept } ∣₁;
  bits = λ b low. marked_is p b low ∙ sym (disk_bit (books_of p) (blocks_of p.history.now) b low);
  whole = λ b low counts. ap length (defined_at (books_of p) (blocks_of p.history.now) b counts) ∙ p.whole b low;
  nothing = λ b out. undefined_at (books_of p) (blocks_of p.history.now) b out;
  issued = λ going. record {
    some = ∣ (blocks_of _, record { below = omega (arith, p.floor_is); is = refl }) ∣₁;
    each = λ m issued. issued;
  };
  awaits = λ p t waits. absurd waits;
}
