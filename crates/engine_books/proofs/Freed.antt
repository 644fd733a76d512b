-- The books once a block is freed.
use Rattle.std.proofs.Common.{◌≡◌, ◌≢◌, ℕ, ◌+◌, ◌-◌, ◌/◌, ◌<◌, ◌≤◌, ◌==◌, nat_lt, Bool, true, false, not, ◌||◌, ◌&&◌, cond, List, [], ◌∷◌, ◌++◌, length, Option, Some, None, is_some, refl, sym, ap, ap₂, subst, ◌∙◌, arith, inl, inr, length-append}
use Rattle.std.proofs.lemmas.Bool.{cases_Bool, cases_eq, cond-true, cond-false, eq-eqb, lt-ltb, false≢true, ne_eqb, not-false, false_from_ne_true}
use Rattle.std.proofs.lemmas.Option.{same_Some, none-some}
use Rattle.std.proofs.Math.Bool.{and-false}
use mathlib.Core.Path.{fun_ext}
use Rattle.base_types.specs.Seal.{Blocks, blocks_of}
use Rattle.layout_geometry.specs.Geometry.{LiesIn, bitmap_start, data_start}
use Rattle.layout_geometry.specs.Geometry.Area.{Data}
use Rattle.layout_bitmap.specs.Bits.{bit_in, free_blocks}
use Rattle.layout_journal.specs.Run.{or_else, otherwise}
use Rattle.crash_argument.specs.HomeTest.{is_one_of}
use Rattle.engine_running.specs.Rows.{put_of}
use Rattle.engine_running.specs.Running.{Changes, IsOrdered, IsRisingNumbers, Puts, bytes_put}
use Rattle.engine_reuse.specs.Numbers.{is_among}
use Rattle.engine_reuse.specs.Dead.{DeadBlocks, AreSound, dead_blocks}
use Rattle.engine_reuse.specs.Calls.{with_freed}
use Rattle.engine_blocks.specs.declared.role.Role.TheVariants.{Untouched, Changed}
use Rattle.engine_blocks.specs.Running.{bit_block, is_bare, with_free}
use Rattle.engine_blocks.specs.State.{Bookkeeping, after_free, defined_by}
use Rattle.engine_blocks.specs.Calls.{IsWithFreed}
use Rattle.engine_books.specs.Books.{TransactionBooks, has_put, bit_now, is_taken_now, role_by, roles_of, is_marked, with_books, bytes_over, map_of}
use Rattle.engine_books.specs.Kept.{AreKept, BitsAgree, HasBoxes}
use Rattle.engine_books.specs.Point.{BeganAt}
use Rattle.engine_books.specs.Taking.{GivesUp, bits_put}
use Rattle.engine_books.proofs.Tests.{eqb_sym}
use Rattle.engine_books.proofs.Rows.{put_with, put_without}
use Rattle.engine_books.proofs.Numbers.{one_is_any}
use Rattle.engine_books.proofs.Counts.{as_many}
use Rattle.engine_books.proofs.Members.{still_good, among_first, among_last}
use Rattle.engine_books.proofs.Boxes.{bits_room}
use Rattle.engine_books.proofs.GivenUp.{one_freed}
use Rattle.engine_books.proofs.Maps.{data_undefined, same_bytes, map_nowhere, map_bit}

-- the law of the dead blocks
abbrev pub FreedLaw : Type 0
FreedLaw = (v : DeadBlocks) (b c : ℕ) → is_among c (dead_blocks (with_freed v b)) ≡ (b == c || is_among c (dead_blocks v))

-- the books with the block given up, and its bit put
abbrev pub freed_books : TransactionBooks → List (List ℕ) → Changes → DeadBlocks → ℕ → TransactionBooks
freed_books v bitmap c dead live = record v { bitmap = bitmap; changes = c; dead = dead; live = live; spare = record v.spare { frees = v.spare.frees - 1 } }

-- What a free leaves of the dead blocks and the counts, whether or not the bit was set.
record DeadThen (v : TransactionBooks) (b : ℕ) (bitmap : List (List ℕ)) (freed : List ℕ) (dead : DeadBlocks) (live : ℕ) : Type 0 where
  geom : dead.geom ≡ v.dead.geom
  reusable : dead.reusable ≡ v.dead.reusable
  waiting : dead.waiting ≡ v.dead.waiting
  held : length dead.held ≡ length v.dead.held + cond (is_marked v b) 1 0
  room : v.dead.room ≤ dead.room + 1
  freed_are : freed ≡ dead.held
  agree : (x : ℕ) → LiesIn v.geom Data x → is_among x (dead_blocks dead) ≡ (b == x || is_among x (dead_blocks v.dead))
  counted : live + length (free_blocks v.geom (blocks_of bitmap)) ≡ v.geom.n - data_start v.geom
  took : v.took ≤ live + length dead.held
  more : (x : ℕ) → is_one_of x v.changes.freed ≡ true → is_one_of x freed ≡ true
  it : bit_now v b ≡ true → is_one_of b freed ≡ true

one_in : (x : ℕ) (xs ys : List ℕ) → is_one_of x xs ≡ true → is_one_of x (xs ++ ys) ≡ true
one_in x xs ys is = one_is_any x (xs ++ ys) ∙ among_first x xs ys (sym (one_is_any x xs) ∙ is)

one_last : (x : ℕ) (xs : List ℕ) → is_one_of x (xs ++ x ∷ []) ≡ true
one_last x xs = one_is_any x (xs ++ x ∷ []) ∙ among_last x xs (x ∷ []) (ap (λ u. u || false) (eq-eqb x x refl))

module _ (v : TransactionBooks) (bitmap : List (List ℕ)) (mid c : Changes) (dead : DeadBlocks) (live b : ℕ) (k : AreKept v) (from : data_start v.geom ≤ b) (below : b < v.geom.n)
    (h : GivesUp b v (record v { bitmap = bitmap; changes = mid; dead = dead; live = live })) (o1 : IsOrdered mid.paid mid.laid) (put : Puts false (bits_put (record v { bitmap = bitmap }) b) mid c) where
  lies : LiesIn v.geom Data b
  lies = record { from = from; below = below }

  dead_then : FreedLaw → DeadThen v b bitmap mid.freed dead live
  dead_then law = elim (cases_Bool (bit_now v b)) [
    | inl e ↦ (let s = h.set e in record {
      geom = ap (λ (d : DeadBlocks). d.geom) s.dead;
      reusable = ap (λ (d : DeadBlocks). d.reusable) s.dead;
      waiting = ap (λ (d : DeadBlocks). d.waiting) s.dead;
      held = ap (λ (d : DeadBlocks). length d.held) s.dead ∙ length-append v.dead.held (b ∷ []) ∙ sym (ap₂ (λ x y. length v.dead.held + cond (x && y) 1 0) (lt-ltb b v.geom.n below) e);
      room = omega (arith, ap (λ (d : DeadBlocks). d.room) s.dead);
      freed_are = s.freed ∙ ap (λ (l : List ℕ). l ++ b ∷ []) k.freed ∙ sym (ap (λ (d : DeadBlocks). d.held) s.dead);
      agree = λ x lie. ap (λ (d : DeadBlocks). is_among x (dead_blocks d)) s.dead ∙ law v.dead b x;
      counted = omega (arith, s.live, k.bits.counted, one_freed v.geom (blocks_of v.bitmap) (blocks_of bitmap) b from below e h.bits);
      took = omega (arith, s.live, k.took_few, ap (λ (d : DeadBlocks). length d.held) s.dead, length-append v.dead.held (b ∷ []));
      more = λ x is. ap (is_one_of x) s.freed ∙ one_in x v.changes.freed (b ∷ []) is;
      it = λ _. ap (is_one_of b) s.freed ∙ one_last b v.changes.freed;
    })
    | inr f ↦ (let s = h.clear f in record {
      geom = ap (λ (d : DeadBlocks). d.geom) s.dead;
      reusable = ap (λ (d : DeadBlocks). d.reusable) s.dead;
      waiting = ap (λ (d : DeadBlocks). d.waiting) s.dead;
      held = omega (arith, ap (λ (d : DeadBlocks). length d.held) s.dead, unmarked f);
      room = omega (arith, ap (λ (d : DeadBlocks). d.room) s.dead);
      freed_are = s.freed ∙ k.freed ∙ sym (ap (λ (d : DeadBlocks). d.held) s.dead);
      agree = λ x lie. ap (λ (d : DeadBlocks). is_among x (dead_blocks d)) s.dead ∙ among_it x f;
      counted = omega (arith, s.live, k.bits.counted, as_many (λ x. not (bit_in (blocks_of bitmap) x)) (λ x. not (bit_now v x)) (data_start v.geom) (v.geom.n - data_start v.geom) (λ x low high. ap not (clear_bits x f)));
      took = omega (arith, s.live, k.took_few, ap (λ (d : DeadBlocks). length d.held) s.dead);
      more = λ x is. ap (is_one_of x) s.freed ∙ is;
      it = λ e. absurd (false≢true (sym f ∙ e));
    })
  ]
    where
      unmarked : bit_now v b ≡ false → length v.dead.held + cond (is_marked v b) 1 0 ≡ length v.dead.held
      unmarked f = ap (λ u. length v.dead.held + cond (nat_lt b v.geom.n && u) 1 0) f ∙ ap (λ u. length v.dead.held + cond u 1 0) (and-false (nat_lt b v.geom.n)) ∙ omega arith

      among_it : (x : ℕ) → bit_now v b ≡ false → is_among x (dead_blocks v.dead) ≡ (b == x || is_among x (dead_blocks v.dead))
      among_it x f = elim (cases_eq b x) [
        | inl e ↦ ap (λ y. is_among y (dead_blocks v.dead)) (sym e) ∙ not-false (is_among b (dead_blocks v.dead)) (sym (k.bits.same b lies) ∙ f) ∙ sym (ap (λ u. u || is_among x (dead_blocks v.dead)) (eq-eqb b x e))
        | inr d ↦ sym (ap (λ u. u || is_among x (dead_blocks v.dead)) (ne_eqb b x d))
      ]

      clear_bits : (x : ℕ) → bit_now v b ≡ false → bit_in (blocks_of bitmap) x ≡ bit_now v x
      clear_bits x f = h.bits x ∙ elim (cases_eq x b) [
        | inl e ↦ cond-true (x == b) false (bit_now v x) (eq-eqb x b e) ∙ sym (ap (bit_now v) e ∙ f)
        | inr d ↦ cond-false (x == b) false (bit_now v x) (ne_eqb x b d)
      ]

  bits : (x : ℕ) → bit_in (blocks_of bitmap) x ≡ cond (x == b) false (bit_now v x)
  bits x = h.bits x

  bit_other : (x : ℕ) → x ≢ b → bit_in (blocks_of bitmap) x ≡ bit_now v x
  bit_other x d = bits x ∙ cond-false (x == b) false (bit_now v x) (ne_eqb x b d)

  bit_here : bit_in (blocks_of bitmap) b ≡ false
  bit_here = bits b ∙ cond-true (b == b) false (bit_now v b) (eq-eqb b b refl)

  paid : (x : ℕ) → put_of x c.paid ≡ cond (bit_block v.geom b == x) (Some (blocks_of bitmap (b / 8192))) (cond (b == x) None (put_of x v.changes.paid))
  paid x = ap (put_of x) put.paid ∙ put_with (bits_put (record v { bitmap = bitmap }) b) mid.paid x
      ∙ ap (λ (o : Option (List ℕ)). cond (bit_block v.geom b == x) (Some (blocks_of bitmap (b / 8192))) o) (ap (put_of x) h.paid ∙ put_without b v.changes.paid x k.lie.ordered.paid)

  laid : (x : ℕ) → put_of x c.laid ≡ cond (bit_block v.geom b == x) None (cond (b == x) None (put_of x v.changes.laid))
  laid x = ap (put_of x) put.laid ∙ put_without (bit_block v.geom b) mid.laid x o1.laid
      ∙ ap (λ (o : Option (List ℕ)). cond (bit_block v.geom b == x) None o) (ap (put_of x) h.laid ∙ put_without b v.changes.laid x k.lie.ordered.laid)

  taken : c.taken ≡ v.changes.taken
  taken = put.taken ∙ h.taken

  apart : bit_block v.geom b ≢ b
  apart e = omega (arith, e, from, below)

  -- what holds of the block, of that with its bit, and of the others holds of each
  at_each : (P : ℕ → Type 0) → P b → P (bit_block v.geom b) → ((x : ℕ) → x ≢ b → x ≢ bit_block v.geom b → P x) → (x : ℕ) → P x
  at_each P here there other x = elim (cases_eq x b) [
    | inl e ↦ subst P (sym e) here
    | inr d ↦ elim (cases_eq x (bit_block v.geom b)) [ inl e ↦ subst P (sym e) there | inr a ↦ other x d a ]
  ]

  -- the puts of the block, of that with its bit, and of the others
  paid_here : put_of b c.paid ≡ None
  paid_here = paid b ∙ cond-false (bit_block v.geom b == b) (Some (blocks_of bitmap (b / 8192))) (cond (b == b) None (put_of b v.changes.paid)) (ne_eqb (bit_block v.geom b) b apart) ∙ cond-true (b == b) None (put_of b v.changes.paid) (eq-eqb b b refl)

  laid_here : put_of b c.laid ≡ None
  laid_here = laid b ∙ cond-false (bit_block v.geom b == b) None (cond (b == b) None (put_of b v.changes.laid)) (ne_eqb (bit_block v.geom b) b apart) ∙ cond-true (b == b) None (put_of b v.changes.laid) (eq-eqb b b refl)

  paid_bits : put_of (bit_block v.geom b) c.paid ≡ Some (blocks_of bitmap (b / 8192))
  paid_bits = paid (bit_block v.geom b) ∙ cond-true (bit_block v.geom b == bit_block v.geom b) (Some (blocks_of bitmap (b / 8192))) (cond (b == bit_block v.geom b) None (put_of (bit_block v.geom b) v.changes.paid)) (eq-eqb (bit_block v.geom b) (bit_block v.geom b) refl)

  laid_bits : put_of (bit_block v.geom b) c.laid ≡ None
  laid_bits = laid (bit_block v.geom b) ∙ cond-true (bit_block v.geom b == bit_block v.geom b) None (cond (b == bit_block v.geom b) None (put_of (bit_block v.geom b) v.changes.laid)) (eq-eqb (bit_block v.geom b) (bit_block v.geom b) refl)

  paid_other : (x : ℕ) → x ≢ b → x ≢ bit_block v.geom b → put_of x c.paid ≡ put_of x v.changes.paid
  paid_other x d a = paid x ∙ cond-false (bit_block v.geom b == x) (Some (blocks_of bitmap (b / 8192))) (cond (b == x) None (put_of x v.changes.paid)) (ne_eqb (bit_block v.geom b) x (λ e. a (sym e))) ∙ cond-false (b == x) None (put_of x v.changes.paid) (ne_eqb b x (λ e. d (sym e)))

  laid_other : (x : ℕ) → x ≢ b → x ≢ bit_block v.geom b → put_of x c.laid ≡ put_of x v.changes.laid
  laid_other x d a = laid x ∙ cond-false (bit_block v.geom b == x) None (cond (b == x) None (put_of x v.changes.laid)) (ne_eqb (bit_block v.geom b) x (λ e. a (sym e))) ∙ cond-false (b == x) None (put_of x v.changes.laid) (ne_eqb b x (λ e. d (sym e)))

  not_taken : (x : ℕ) → x < data_start v.geom → is_one_of x v.changes.taken ≡ false
  not_taken x low = false_from_ne_true (is_one_of x v.changes.taken) (λ is. omega (arith, low, (k.lie.taken x is).from))

  -- The bookkeeping.

  role_other : (x : ℕ) → x ≢ b → x ≢ bit_block v.geom b → roles_of (freed_books v bitmap c dead live) x ≡ roles_of v x
  role_other x d a =
      ap₂ (λ y z. role_by (is_some y) (is_some z) (is_taken_now (freed_books v bitmap c dead live) x)) (laid_other x d a) (paid_other x d a)
      ∙ ap₂ (λ y z. role_by (has_put x v.changes.laid) (has_put x v.changes.paid) (y && z)) (ap (is_one_of x) taken) (bit_other x d)

  roles : (x : ℕ) → roles_of (freed_books v bitmap c dead live) x ≡ with_free v.geom (roles_of v) b x
  roles = at_each (λ x. roles_of (freed_books v bitmap c dead live) x ≡ with_free v.geom (roles_of v) b x)
      (ap₂ (λ y z. role_by (is_some y) (is_some z) (is_taken_now (freed_books v bitmap c dead live) b)) laid_here paid_here
      ∙ ap (λ y. role_by false false (is_one_of b c.taken && y)) bit_here ∙ ap (role_by false false) (and-false (is_one_of b c.taken))
      ∙ sym (cond-true (b == b) Untouched (cond (b == bit_block v.geom b) Changed (roles_of v b)) (eq-eqb b b refl)))
      (ap₂ (λ y z. role_by (is_some y) (is_some z) (is_taken_now (freed_books v bitmap c dead live) (bit_block v.geom b))) laid_bits paid_bits
      ∙ ap (λ y. role_by false true (y && bit_in (blocks_of bitmap) (bit_block v.geom b))) (ap (is_one_of (bit_block v.geom b)) taken ∙ not_taken (bit_block v.geom b) (omega (arith, below)))
      ∙ sym (cond-false (bit_block v.geom b == b) Untouched (cond (bit_block v.geom b == bit_block v.geom b) Changed (roles_of v (bit_block v.geom b))) (ne_eqb (bit_block v.geom b) b apart) ∙ cond-true (bit_block v.geom b == bit_block v.geom b) Changed (roles_of v (bit_block v.geom b)) (eq-eqb (bit_block v.geom b) (bit_block v.geom b) refl)))
      (λ x d a. role_other x d a ∙ sym (cond-false (x == b) Untouched (cond (x == bit_block v.geom b) Changed (roles_of v x)) (ne_eqb x b d) ∙ cond-false (x == bit_block v.geom b) Changed (roles_of v x) (ne_eqb x (bit_block v.geom b) a)))

  marks : (x : ℕ) → is_marked (freed_books v bitmap c dead live) x ≡ cond (x == b) false (is_marked v x)
  marks x = ap (λ u. nat_lt x v.geom.n && u) (bits x) ∙ by (x == b) (nat_lt x v.geom.n) (bit_now v x)
    where
      by : (e u w : Bool) → (u && cond e false w) ≡ cond e false (u && w)
      by true u w = and-false u
      by false u w = refl

  pub books_freed : FreedLaw → (q : Bookkeeping) → with_books q (freed_books v bitmap c dead live) ≡ after_free (with_books q v) b
  books_freed law q =
      let t = dead_then law in
      ap₂ (λ r m. record (with_books q (freed_books v bitmap c dead live)) { running = record { roles = r; weight = v.weight; held = length dead.held; took = v.took }; marked = m }) (fun_ext roles) (fun_ext marks)
      ∙ ap₂ (λ n u. record (after_free (with_books q v) b) { running = record { roles = with_free v.geom (roles_of v) b; weight = v.weight; held = n; took = v.took }; reusable = λ x. is_among x u; waiting = length dead.waiting }) t.held t.reusable
      ∙ ap (λ (w : List (ℕ × ℕ)). record (after_free (with_books q v) b) { waiting = length w }) t.waiting

  -- What holds at all times.

  bits_kept : FreedLaw → BitsAgree (freed_books v bitmap c dead live)
  bits_kept law = let t = dead_then law in record {
    size = h.size ∙ k.bits.size;
    others = still_good v.geom (blocks_of v.bitmap) (blocks_of bitmap) (λ x out. bit_other x (λ e. out (subst (LiesIn v.geom Data) (sym e) lies))) k.bits.others;
    same = λ x lie. bits x ∙ ap (cond (x == b) false) (k.bits.same x lie) ∙ by (x == b) (is_among x (dead_blocks v.dead)) ∙ ap (λ u. not (u || is_among x (dead_blocks v.dead))) (eqb_sym x b) ∙ sym (ap not (t.agree x lie));
    counted = t.counted;
  }
    where
      by : (e w : Bool) → cond e false (not w) ≡ not (e || w)
      by true w = refl
      by false w = refl

  where_paid : (x : ℕ) (P : ℕ → Type 0) → has_put x c.paid ≡ true → P (bit_block v.geom b) → (has_put x v.changes.paid ≡ true → P x) → P x
  where_paid x P is here old = at_each (λ y. has_put y c.paid ≡ true → (has_put y v.changes.paid ≡ true → P y) → P y)
      (λ put _. absurd (false≢true (sym (ap is_some paid_here) ∙ put))) (λ _ _. here) (λ y d a put was. was (sym (ap is_some (paid_other y d a)) ∙ put)) x is old

  where_laid : (x : ℕ) → has_put x c.laid ≡ true → is_taken_now (freed_books v bitmap c dead live) x ≡ true
  where_laid = at_each (λ x. has_put x c.laid ≡ true → is_taken_now (freed_books v bitmap c dead live) x ≡ true)
      (λ is. absurd (false≢true (sym (ap is_some laid_here) ∙ is))) (λ is. absurd (false≢true (sym (ap is_some laid_bits) ∙ is)))
      (λ x d a is. ap₂ (λ y z. y && z) (ap (is_one_of x) taken) (bit_other x d) ∙ k.lie.laid x (sym (ap is_some (laid_other x d a)) ∙ is))

  boxes : 0 < v.spare.frees → HasBoxes v.spare.puts (v.spare.takes + (v.spare.frees - 1)) (freed_books v bitmap c dead live)
  boxes some = omega (
    arith,
    some,
    bits_room v.geom v.changes mid c (bits_put (record v { bitmap = bitmap }) b) o1 put (omega arith) (omega (arith, below)) h.puts
        (λ x low high. ap is_some (ap (put_of x) h.paid ∙ put_without b v.changes.paid x k.lie.ordered.paid ∙ cond-false (b == x) None (put_of x v.changes.paid) (ne_eqb b x (λ e. omega (arith, e, high, from)))))
        v.spare.puts (v.spare.takes + v.spare.frees) (omega (arith, some)) k.room.boxes,
  )

  pub kept_freed : FreedLaw → 0 < v.spare.frees → AreSound dead → IsOrdered c.paid c.laid → IsRisingNumbers c.taken → AreKept (freed_books v bitmap c dead live)
  kept_freed law some sound o r = let t = dead_then law in record {
    limits = k.limits;
    geom = t.geom ∙ k.geom;
    sound = sound;
    bits = bits_kept law;
    lie = record {
      ordered = o;
      rising = r;
      taken = λ x is. k.lie.taken x (ap (is_one_of x) (sym taken) ∙ is);
      paid_from = λ x is. where_paid x (λ y. bitmap_start v.geom ≤ y) is (omega arith) (k.lie.paid_from x);
      paid_below = λ x is. where_paid x (λ y. y < v.geom.n) is (omega (arith, below, k.limits.data_room)) (k.lie.paid_below x);
      laid = where_laid;
    };
    room = record {
      boxes = boxes some;
      takes = omega (arith, k.room.takes, put.takes, h.takes);
      frees = omega (arith, some, k.room.frees, put.frees, h.frees);
      held = omega (arith, some, k.room.held, t.room);
    };
    freed = put.freed ∙ t.freed_are;
    taken_few = omega (arith, k.taken_few, ap (λ (l : List ℕ). length l) taken);
    took_few = t.took;
    fits = k.fits;
  }

  -- The last point.

  pub began_freed : FreedLaw → length (blocks_of bitmap (b / 8192)) ≡ 1024 → (last : Blocks) → BeganAt v last → BeganAt (freed_books v bitmap c dead live) last
  began_freed law full last began = let t = dead_then law in record {
    bitmap = λ i low. elim (cases_eq i (b / 8192)) [
      | inl e ↦ ap (λ j. bytes_over c last (bitmap_start v.geom + j)) e ∙ ap₂ (λ x y. otherwise (or_else x y) (last (bit_block v.geom b))) laid_bits paid_bits ∙ ap (blocks_of bitmap) (sym e)
      | inr d ↦
          let not_it : bitmap_start v.geom + i ≢ b = λ e. omega (arith, e, low, from) in
          let not_at : bitmap_start v.geom + i ≢ bit_block v.geom b = λ e. d (omega (arith, e)) in
          same_bytes v.changes c last (bitmap_start v.geom + i) (laid_other (bitmap_start v.geom + i) not_it not_at) (paid_other (bitmap_start v.geom + i) not_it not_at) ∙ began.bitmap i low ∙ sym (h.others i d)
    ];
    was_dead = λ x is. began.was_dead x (ap (is_one_of x) (sym taken) ∙ is);
    took = λ x low is out. ap (is_one_of x) taken ∙ began.took x low (sym (bit_other x (λ e. false≢true (sym bit_here ∙ ap (bit_in (blocks_of bitmap)) (sym e) ∙ is))) ∙ is) out;
    killed = λ x low is set. ap (is_one_of x) put.freed ∙ elim (cases_Bool (bit_now v x)) [
      | inl e ↦ elim (cases_eq x b) [ inl s ↦ ap (λ y. is_one_of y mid.freed) s ∙ t.it (ap (bit_now v) (sym s) ∙ e) | inr d ↦ absurd (false≢true (sym is ∙ bit_other x d ∙ e)) ]
      | inr f ↦ t.more x (began.killed x low f set)
    ];
    marked = at_each (λ x. data_start v.geom ≤ x → is_some (bytes_put c x) ≡ true → bit_in (blocks_of bitmap) x ≡ true)
        (λ low is. absurd (false≢true (sym (ap₂ (λ y z. is_some (or_else y z)) laid_here paid_here) ∙ is))) (λ low is. absurd (omega (arith, low, below)))
        (λ x d a low is. bit_other x d ∙ began.marked x low (sym (ap₂ (λ y z. is_some (or_else y z)) (laid_other x d a) (paid_other x d a)) ∙ is));
    whole = at_each (λ x. (bytes : List ℕ) → bytes_put c x ≡ Some bytes → length bytes ≡ 1024)
        (λ bytes is. absurd (none-some bytes (sym (ap₂ or_else laid_here paid_here) ∙ is)))
        (λ bytes is. ap (λ (y : List ℕ). length y) (sym (same_Some (blocks_of bitmap (b / 8192)) bytes (sym (ap₂ or_else laid_bits paid_bits) ∙ is))) ∙ full)
        (λ x d a bytes is. began.whole x bytes (sym (ap₂ or_else (laid_other x d a) (paid_other x d a)) ∙ is));
  }

  pub map_freed : FreedLaw → length (blocks_of bitmap (b / 8192)) ≡ 1024 → (last : Blocks) → BeganAt v last → IsWithFreed v.geom (map_of v last) (map_of (freed_books v bitmap c dead live) last) b
  map_freed law full last began = record {
    own = map_nowhere (freed_books v bitmap c dead live) last b (data_undefined v.geom (is_marked (freed_books v bitmap c dead live) b) (is_bare (roles_of (freed_books v bitmap c dead live) b)) b from
        (ap (λ u. u && not (is_bare (roles_of (freed_books v bitmap c dead live) b))) (ap (λ u. nat_lt b v.geom.n && u) bit_here ∙ and-false (nat_lt b v.geom.n))));
    bits = λ x low. map_bit (freed_books v bitmap c dead live) last x (began_freed law full last began) low ∙ bits x ∙ ap (cond (x == b) false) (sym (map_bit v last x began low));
    others = λ x d a. ap₂ (λ y z. cond y z [])
        (ap₂ (λ m r. defined_by v.geom m (is_bare r) x) (marks x ∙ cond-false (x == b) false (is_marked v x) (ne_eqb x b d)) (role_other x d a))
        (same_bytes v.changes c last x (laid_other x d a) (paid_other x d a));
  }

-- What a free leaves, in one.
pub record FreeLeaves (v now : TransactionBooks) (b : ℕ) : Type 0 where
  pub kept : AreKept now
  pub books : (q : Bookkeeping) → with_books q now ≡ after_free (with_books q v) b
  pub began : (last : Blocks) → BeganAt v last → BeganAt now last
  pub map : (last : Blocks) → BeganAt v last → IsWithFreed v.geom (map_of v last) (map_of now last) b

-- the block was given up, its bit was put, and there is one free less
pub free_leaves : (v w x : TransactionBooks) (b : ℕ) → AreKept v → data_start v.geom ≤ b → b < v.geom.n → 0 < v.spare.frees → GivesUp b v w → IsOrdered w.changes.paid w.changes.laid → Puts false (bits_put w b) w.changes x.changes → length (blocks_of w.bitmap (b / 8192)) ≡ 1024 → x ≡ record w { changes = x.changes }
    → FreedLaw → AreSound x.dead → IsOrdered x.changes.paid x.changes.laid → IsRisingNumbers x.changes.taken → FreeLeaves v (record x { spare = record x.spare { frees = x.spare.frees - 1 } }) b
free_leaves v w x b k from below some h o1 put full e law sound o r =
    let h1 = subst (λ y. GivesUp b v y) h.same h in
    let put1 = subst (λ (y : TransactionBooks). Puts false (bits_put y b) w.changes x.changes) h.same put in
    let sound1 = subst (λ (y : TransactionBooks). AreSound y.dead) e sound in
    let same : x ≡ record v { bitmap = w.bitmap; changes = x.changes; dead = w.dead; live = w.live } = e ∙ ap (λ (y : TransactionBooks). record y { changes = x.changes }) h.same in
    subst (λ y. FreeLeaves v y b) (sym (ap (λ (y : TransactionBooks). record y { spare = record y.spare { frees = y.spare.frees - 1 } }) same))
    (record {
      kept = kept_freed v w.bitmap w.changes x.changes w.dead w.live b k from below h1 o1 put1 law some sound1 o r;
      books = books_freed v w.bitmap w.changes x.changes w.dead w.live b k from below h1 o1 put1 law;
      began = began_freed v w.bitmap w.changes x.changes w.dead w.live b k from below h1 o1 put1 law full;
      map = map_freed v w.bitmap w.changes x.changes w.dead w.live b k from below h1 o1 put1 law full;
    })

-- the same of books that were opened
pub free_at : (v w wi z zi : TransactionBooks) (b : ℕ) → wi ≡ w → zi ≡ z → AreKept v → data_start v.geom ≤ b → b < v.geom.n → 0 < v.spare.frees → GivesUp b v w → IsOrdered wi.changes.paid wi.changes.laid → Puts false (bits_put w b) w.changes z.changes → length (blocks_of w.bitmap (b / 8192)) ≡ 1024 → z ≡ record w { changes = z.changes }
    → FreedLaw → AreSound zi.dead → IsOrdered zi.changes.paid zi.changes.laid → IsRisingNumbers zi.changes.taken → FreeLeaves v (record zi { spare = record zi.spare { frees = zi.spare.frees - 1 } }) b
free_at v w wi z zi b ew ez k from below some h o1 put full e law sound o r =
    free_leaves v w zi b k from below some h (subst (λ (y : TransactionBooks). IsOrdered y.changes.paid y.changes.laid) ew o1) (subst (λ (y : TransactionBooks). Puts false (bits_put w b) w.changes y.changes) (sym ez) put) full
    (subst (λ (y : TransactionBooks). y ≡ record w { changes = y.changes }) (sym ez) e) law sound o r
