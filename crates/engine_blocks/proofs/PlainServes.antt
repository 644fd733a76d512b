-- In memory nothing waits: what a transaction freed may be taken once it has ended.
use Rattle.std.proofs.Common.{◌≡◌, inr, ℕ, nat_le, nat_lt, ◌&&◌, ◌||◌, not, Bool, true, false, refl, sym, ◌∙◌, ap, arith}
use Rattle.std.proofs.Math.Bool.{or-false}
use Rattle.std.proofs.lemmas.Bool.{and_parts, or_parts, not-true, le-leb, leb-true, lt-ltb, ltb-true}
use Rattle.layout_geometry.specs.Geometry.{data_start}
use Rattle.engine_blocks.specs.declared.plain.PlainBlocks.{PlainBlocks}
use Rattle.engine_blocks.specs.State.{Bookkeeping, IsReusable}
use Rattle.engine_blocks.specs.Puts.{IsData}
use Rattle.engine_blocks.specs.PlainOf.{books_of, state_of}
use Rattle.engine_blocks.specs.Serving.{EndsFrees, LetsGo, SameFreed, is_held, with_all_served}
use Rattle.engine_blocks.proofs.PlainSyncs.{with_floor}

-- all that waited is nothing
pub same_served : (p : PlainBlocks) → SameFreed (with_all_served (books_of p)) (books_of p)
same_served p = record { reusable = λ b at. sym (or-false ((books_of p).reusable b)); since = λ b at. refl }

-- a data block serves after as before, where it isn't held
serves_by : (x y m r n : Bool) → x ≡ true → y ≡ true → (x && (y && not (m || (r || false)))) ≡ false → (r ≡ true → m ≡ false) → n ≡ not m → n ≡ r
serves_by x y m r n e f not_held unmarked clears = grind (arith, e, f, not_held, unmarked, clears)

module _ (old new : PlainBlocks) (unmarked : (b : ℕ) → IsReusable old.geom (books_of old).reusable b → (books_of old).marked b ≡ false) (clears : (b : ℕ) → IsData old.geom b → (books_of new).reusable b ≡ not ((books_of old).marked b)) where
  -- what may be taken then: all that was, and what was held
  serves_still : (b : ℕ) → IsData old.geom b → is_held (books_of old) b ≡ false → (books_of new).reusable b ≡ (books_of old).reusable b
  serves_still b at not_held = serves_by (nat_le (data_start old.geom) b) (nat_lt b old.geom.n) ((books_of old).marked b) ((books_of old).reusable b) ((books_of new).reusable b)
      (le-leb (data_start old.geom) b at.from) (lt-ltb b old.geom.n at.below) not_held (λ may. unmarked b (record { from = at.from; below = at.below; free = may })) (clears b at)

  lets : LetsGo (books_of old) (state_of new)
  lets = record {
    held = λ b is.
        let one = and_parts (nat_le (data_start old.geom) b) _ is in
        let two = and_parts (nat_lt b old.geom.n) _ one.1 in
        inr (tt, clears b (record { from = leb-true (data_start old.geom) b one.0; below = ltb-true b old.geom.n two.0 }) ∙ ap not ((or_parts ((books_of old).marked b) _ (not-true _ two.1)).0), refl);
    reusable = λ b at is. serves_still b at is;
    since = λ b at is. refl;
  }

  -- the same where all that waited, which is nothing, serves again
  lets_all : LetsGo (with_all_served (books_of old)) (state_of new)
  lets_all = record {
    held = λ b is. lets.held b (as_was b ∙ is);
    reusable = λ b at is. lets.reusable b at (as_was b ∙ is) ∙ sym (or-false ((books_of old).reusable b));
    since = λ b at is. refl;
  }
    where
      as_was : (b : ℕ) → is_held (books_of old) b ≡ is_held (with_all_served (books_of old)) b
      as_was b = ap (λ x. nat_le (data_start old.geom) b && (nat_lt b old.geom.n && not ((books_of old).marked b || (x || false)))) (sym (or-false ((books_of old).reusable b)))

  pub ends_frees : ((books_of old).running.weight ≡ 0 → ⊥) → EndsFrees (state_of old) (state_of new)
  ends_frees some = record { idle = λ none. absurd (some none); fits = λ more fits. lets; drains = λ more not_fits. lets_all }

-- Another floor changes nothing of that.

lets_floor : (k : Bookkeeping) (mid : PlainBlocks) (floor : ℕ) → LetsGo k (state_of mid) → LetsGo k (with_floor mid floor)
lets_floor k mid floor l = record { held = l.held; reusable = l.reusable; since = l.since }

pub ends_floor : (old mid : PlainBlocks) (floor : ℕ) → EndsFrees (state_of old) (state_of mid) → EndsFrees (state_of old) (with_floor mid floor)
ends_floor old mid floor e = record {
  idle = λ none. let s = e.idle none in record { reusable = s.reusable; since = s.since };
  fits = λ more fits. lets_floor (books_of old) mid floor (e.fits more fits);
  drains = λ more not_fits. lets_floor (with_all_served (books_of old)) mid floor (e.drains more not_fits);
}
