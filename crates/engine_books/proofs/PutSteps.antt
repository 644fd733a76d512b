-- The books after a put.
use Rattle.std.proofs.Common.{◌≡◌, ◌≢◌, ℕ, ◌+◌, ◌-◌, ◌<◌, ◌≤◌, ◌==◌, Bool, true, false, not, ◌&&◌, cond, List, [], length, Some, None, is_some, refl, sym, ap, ap₂, subst, ◌∙◌, arith, inl, inr}
use Rattle.std.proofs.lemmas.Bool.{cases_eq, cases_lt, cond-true, cond-false, eq-eqb, lt-ltb, ne_eqb}
use Rattle.std.proofs.lemmas.Option.{same_Some}
use mathlib.Core.Path.{fun_ext}
use Rattle.base_types.specs.Seal.{Blocks}
use Rattle.base_types.specs.declared.words.Class.{Class}
use Rattle.base_types.specs.declared.words.Class.TheVariants.{Meta, Content}
use Rattle.layout_geometry.specs.Geometry.{bitmap_start, bitmap_blocks, table_start, data_start}
use Rattle.layout_journal.specs.Run.{or_else, otherwise}
use Rattle.crash_argument.specs.HomeTest.{is_one_of}
use Rattle.engine_running.specs.declared.put.Put.{Put}
use Rattle.engine_running.specs.Rows.{put_of}
use Rattle.engine_running.specs.declared.put.Class as tx
use Rattle.engine_running.specs.Running.{Changes, IsOrdered, IsRisingNumbers, Puts, bytes_put, is_fresh}
use Rattle.engine_blocks.specs.Running.{is_bare, put_role, with_put}
use Rattle.engine_blocks.specs.State.{Bookkeeping, after_put, defined_by}
use Rattle.engine_blocks.specs.Calls.{IsWithBlock}
use Rattle.engine_books.specs.Books.{TransactionBooks, has_put, bit_now, is_taken_now, role_by, roles_of, is_marked, with_books, bytes_over, map_of, class_for}
use Rattle.engine_books.specs.Kept.{AreKept}
use Rattle.engine_books.specs.Point.{BeganAt}
use Rattle.engine_books.proofs.Rows.{put_with, put_without}
use Rattle.engine_books.proofs.Counts.{as_many}
use Rattle.engine_books.proofs.Maps.{table_defined, data_defined, same_bytes, map_there}

-- the books with one put more
abbrev pub put_books : TransactionBooks → Changes → TransactionBooks
put_books v c = record v { changes = c; spare = record v.spare { puts = v.spare.puts - 1 } }

-- whether the put will be written in place
abbrev fresh_now : Class → Bool → Bool
fresh_now Meta t = false
fresh_now Content t = t

fresh_is : (class : Class) (bit : Bool) (taken : List ℕ) (b : ℕ) → is_fresh (class_for bit class) taken b ≡ fresh_now class (is_one_of b taken && bit)
fresh_is class bit taken b = grind arith

fresh_taken : (class : Class) (t : Bool) → fresh_now class t ≡ true → t ≡ true
fresh_taken class t e = grind (arith, e)

-- the role that a put gives
given_role : (class : Class) (l p t : Bool) → (l ≡ true → t ≡ true) → role_by (fresh_now class t) (not (fresh_now class t)) t ≡ put_role class (role_by l p t)
given_role class l p t e = grind (arith, e)

-- a role that was given isn't bare
given_not_bare : (f t : Bool) → is_bare (role_by f (not f) t) ≡ false
given_not_bare f t = grind arith

-- the rows after a put, whether or not it will be written in place
row_of : (fresh : Bool) (p : Put) (old new : Changes) → IsOrdered old.paid old.laid → Puts fresh p old new → (b : ℕ)
    → (put_of b new.laid ≡ cond (p.block == b) (cond fresh (Some p.bytes) None) (put_of b old.laid)) × (put_of b new.paid ≡ cond (p.block == b) (cond fresh None (Some p.bytes)) (put_of b old.paid))
row_of true p old new o put b = (ap (put_of b) put.laid ∙ put_with p old.laid b, ap (put_of b) put.paid ∙ put_without p.block old.paid b o.paid)
row_of false p old new o put b = (ap (put_of b) put.laid ∙ put_without p.block old.laid b o.laid, ap (put_of b) put.paid ∙ put_with p old.paid b)

module _ (v : TransactionBooks) (c : Changes) (b : ℕ) (bytes : List ℕ) (class : Class) (k : AreKept v) (from : table_start v.geom ≤ b) (below : b < v.geom.n) (put : Puts (is_fresh (class_for (bit_now v b) class) v.changes.taken b) (record { block = b; bytes = bytes }) v.changes c) where
  abbrev fresh : Bool
  fresh = fresh_now class (is_taken_now v b)

  now : Puts fresh (record { block = b; bytes = bytes }) v.changes c
  now = subst (λ f. Puts f (record { block = b; bytes = bytes }) v.changes c) (fresh_is class (bit_now v b) v.changes.taken b) put

  laid : (x : ℕ) → put_of x c.laid ≡ cond (b == x) (cond fresh (Some bytes) None) (put_of x v.changes.laid)
  laid x = (row_of fresh (record { block = b; bytes = bytes }) v.changes c k.lie.ordered now x).0

  paid : (x : ℕ) → put_of x c.paid ≡ cond (b == x) (cond fresh None (Some bytes)) (put_of x v.changes.paid)
  paid x = (row_of fresh (record { block = b; bytes = bytes }) v.changes c k.lie.ordered now x).1

  laid_other : (x : ℕ) → x ≢ b → put_of x c.laid ≡ put_of x v.changes.laid
  laid_other x d = laid x ∙ cond-false (b == x) (cond fresh (Some bytes) None) (put_of x v.changes.laid) (ne_eqb b x (λ e. d (sym e)))

  paid_other : (x : ℕ) → x ≢ b → put_of x c.paid ≡ put_of x v.changes.paid
  paid_other x d = paid x ∙ cond-false (b == x) (cond fresh None (Some bytes)) (put_of x v.changes.paid) (ne_eqb b x (λ e. d (sym e)))

  laid_here : put_of b c.laid ≡ cond fresh (Some bytes) None
  laid_here = laid b ∙ cond-true (b == b) (cond fresh (Some bytes) None) (put_of b v.changes.laid) (eq-eqb b b refl)

  paid_here : put_of b c.paid ≡ cond fresh None (Some bytes)
  paid_here = paid b ∙ cond-true (b == b) (cond fresh None (Some bytes)) (put_of b v.changes.paid) (eq-eqb b b refl)

  -- what was taken is as before
  taken_same : (x : ℕ) → is_taken_now (put_books v c) x ≡ is_taken_now v x
  taken_same x = ap (λ (ns : List ℕ). is_one_of x ns && bit_now v x) now.taken

  is_laid : (f : Bool) → is_some (cond f (Some bytes) None) ≡ f
  is_laid true = refl
  is_laid false = refl

  is_paid : (f : Bool) → is_some (cond f None (Some bytes)) ≡ not f
  is_paid true = refl
  is_paid false = refl

  role_here : roles_of (put_books v c) b ≡ role_by fresh (not fresh) (is_taken_now v b)
  role_here =
      ap₂ (λ x y. role_by (is_some x) (is_some y) (is_taken_now (put_books v c) b)) laid_here paid_here
      ∙ ap₂ (λ x y. role_by x y (is_taken_now (put_books v c) b)) (is_laid fresh) (is_paid fresh)
      ∙ ap (role_by fresh (not fresh)) (taken_same b)

  role_other : (x : ℕ) → x ≢ b → roles_of (put_books v c) x ≡ roles_of v x
  role_other x d =
      ap₂ (λ y z. role_by (is_some y) (is_some z) (is_taken_now (put_books v c) x)) (laid_other x d) (paid_other x d)
      ∙ ap (role_by (has_put x v.changes.laid) (has_put x v.changes.paid)) (taken_same x)

  roles : (x : ℕ) → roles_of (put_books v c) x ≡ with_put (roles_of v) b class x
  roles x = elim (cases_eq x b) [
    | inl e ↦ ap (roles_of (put_books v c)) e ∙ role_here ∙ given_role class (has_put b v.changes.laid) (has_put b v.changes.paid) (is_taken_now v b) (k.lie.laid b) ∙ sym (cond-true (x == b) (put_role class (roles_of v b)) (roles_of v x) (eq-eqb x b e))
    | inr d ↦ role_other x d ∙ sym (cond-false (x == b) (put_role class (roles_of v b)) (roles_of v x) (ne_eqb x b d))
  ]

  pub books_put : (q : Bookkeeping) → with_books q (put_books v c) ≡ after_put (with_books q v) b class
  books_put q = ap (λ r. record (with_books q (put_books v c)) { running = record { roles = r; weight = v.weight; held = length v.dead.held; took = v.took } }) (fun_ext roles)

  -- What holds at all times.

  where_put : (x : ℕ) (P : ℕ → Type 0) → has_put x c.paid ≡ true → P b → (has_put x v.changes.paid ≡ true → P x) → P x
  where_put x P is here old = elim (cases_eq x b) [
    | inl e ↦ subst P (sym e) here
    | inr d ↦ old (sym (ap is_some (paid_other x d)) ∙ is)
  ]

  where_laid : (x : ℕ) → has_put x c.laid ≡ true → is_taken_now (put_books v c) x ≡ true
  where_laid x is = taken_same x ∙ elim (cases_eq x b) [
    | inl e ↦ ap (is_taken_now v) e ∙ fresh_taken class (is_taken_now v b) (sym (is_laid fresh) ∙ sym (ap is_some laid_here) ∙ ap (λ y. has_put y c.laid) (sym e) ∙ is)
    | inr d ↦ k.lie.laid x (sym (ap is_some (laid_other x d)) ∙ is)
  ]

  pub kept_put : 0 < v.spare.puts → IsOrdered c.paid c.laid → IsRisingNumbers c.taken → AreKept (put_books v c)
  kept_put some o r = record {
    limits = k.limits;
    geom = k.geom;
    sound = k.sound;
    bits = record { size = k.bits.size; others = k.bits.others; same = k.bits.same; counted = k.bits.counted };
    lie = record {
      ordered = o;
      rising = r;
      taken = λ x is. k.lie.taken x (ap (is_one_of x) (sym now.taken) ∙ is);
      paid_from = λ x is. where_put x (λ y. bitmap_start v.geom ≤ y) is (omega (arith, from)) (k.lie.paid_from x);
      paid_below = λ x is. where_put x (λ y. y < v.geom.n) is below (k.lie.paid_below x);
      laid = where_laid;
    };
    room = record {
      boxes = omega (arith, some, k.room.boxes, now.puts, as_many (λ x. not (has_put x c.paid)) (λ x. not (has_put x v.changes.paid)) (bitmap_start v.geom) (bitmap_blocks v.geom) (λ x low high. ap (λ o. not (is_some o)) (paid_other x (λ e. omega (arith, e, high, from)))));
      takes = omega (arith, k.room.takes, now.takes);
      frees = omega (arith, k.room.frees, now.frees);
      held = k.room.held;
    };
    freed = now.freed ∙ k.freed;
    taken_few = omega (arith, k.taken_few, ap (λ (l : List ℕ). length l) now.taken);
    took_few = k.took_few;
    fits = k.fits;
  }

  -- The last point.

  either_row : (f : Bool) → or_else (cond f (Some bytes) None) (cond f None (Some bytes)) ≡ Some bytes
  either_row true = refl
  either_row false = refl

  bytes_other : (last : Blocks) (x : ℕ) → x ≢ b → bytes_over c last x ≡ bytes_over v.changes last x
  bytes_other last x d = same_bytes v.changes c last x (laid_other x d) (paid_other x d)

  bytes_here : (last : Blocks) → bytes_over c last b ≡ bytes
  bytes_here last = ap₂ (λ x y. otherwise (or_else x y) (last b)) laid_here paid_here ∙ ap (λ o. otherwise o (last b)) (either_row fresh)

  pub began_put : length bytes ≡ 1024 → (last : Blocks) → (data_start v.geom ≤ b → bit_now v b ≡ true) → BeganAt v last → BeganAt (put_books v c) last
  began_put full last marked began = record {
    bitmap = λ i low. bytes_other last (bitmap_start v.geom + i) (λ e. omega (arith, e, low, from)) ∙ began.bitmap i low;
    was_dead = λ x is. began.was_dead x (ap (is_one_of x) (sym now.taken) ∙ is);
    took = λ x low is out. ap (is_one_of x) now.taken ∙ began.took x low is out;
    killed = λ x low is set. ap (is_one_of x) now.freed ∙ began.killed x low is set;
    marked = λ x at is. elim (cases_eq x b) [
      | inl e ↦ ap (bit_now v) e ∙ marked (omega (arith, e, at))
      | inr d ↦ began.marked x at (sym (ap₂ (λ y z. is_some (or_else y z)) (laid_other x d) (paid_other x d)) ∙ is)
    ];
    whole = λ x all is. elim (cases_eq x b) [
      | inl e ↦ ap (λ (y : List ℕ). length y) (sym (same_Some bytes all (sym (ap (bytes_put c) e ∙ ap₂ or_else laid_here paid_here ∙ either_row fresh) ∙ is))) ∙ full
      | inr d ↦ began.whole x all (sym (ap₂ or_else (laid_other x d) (paid_other x d)) ∙ is)
    ];
  }

  pub map_put : (last : Blocks) → (data_start v.geom ≤ b → bit_now v b ≡ true) → IsWithBlock (map_of v last) (map_of (put_books v c) last) b bytes
  map_put last marked = record {
    own = map_there (put_books v c) last b (elim (cases_lt b (data_start v.geom)) [
      | inl early ↦ table_defined v.geom (is_marked (put_books v c) b) (is_bare (roles_of (put_books v c) b)) b (omega (arith, from)) early
      | inr late ↦ data_defined v.geom (is_marked (put_books v c) b) (is_bare (roles_of (put_books v c) b)) b late below (ap₂ (λ x y. x && y) (lt-ltb b v.geom.n below) (marked late)) (ap is_bare role_here ∙ given_not_bare fresh (is_taken_now v b))
    ]) ∙ bytes_here last;
    others = λ x d. ap₂ (λ y z. cond y z []) (ap (λ r. defined_by v.geom (is_marked v x) (is_bare r) x) (role_other x d)) (bytes_other last x d);
  }

-- what a put leaves, in one
pub record PutLeaves (v now : TransactionBooks) (b : ℕ) (bytes : List ℕ) (class : Class) : Type 0 where
  pub kept : AreKept now
  pub books : (q : Bookkeeping) → with_books q now ≡ after_put (with_books q v) b class
  pub began : (last : Blocks) → (data_start v.geom ≤ b → bit_now v b ≡ true) → BeganAt v last → BeganAt now last
  pub map : (last : Blocks) → (data_start v.geom ≤ b → bit_now v b ≡ true) → IsWithBlock (map_of v last) (map_of now last) b bytes

pub put_leaves : (v x : TransactionBooks) (c : Changes) (b : ℕ) (bytes : List ℕ) (class : Class) (given : tx.Class) → x ≡ v → AreKept v → 0 < v.spare.puts → table_start v.geom ≤ b → b < v.geom.n → given ≡ class_for (bit_now v b) class → length bytes ≡ 1024
    → Puts (is_fresh given x.changes.taken b) (record { block = b; bytes = bytes }) x.changes c → IsOrdered c.paid c.laid → IsRisingNumbers c.taken → PutLeaves v (put_books x c) b bytes class
put_leaves v x c b bytes class given e k some from below is full put o r =
    subst (λ w. PutLeaves v (put_books w c) b bytes class) (sym e)
    (let put1 = subst (λ t. Puts (is_fresh t v.changes.taken b) (record { block = b; bytes = bytes }) v.changes c) is (subst (λ w. Puts (is_fresh given w.changes.taken b) (record { block = b; bytes = bytes }) w.changes c) e put) in
    record {
      kept = kept_put v c b bytes class k from below put1 some o r;
      books = books_put v c b bytes class k from below put1;
      began = began_put v c b bytes class k from below put1 full;
      map = map_put v c b bytes class k from below put1;
    })
