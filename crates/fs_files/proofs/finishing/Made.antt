-- All changes of a draft, one behind the other.
use Rattle.std.proofs.Common.{◌≡◌, ℕ, suc, ◌+◌, ◌-◌, ◌*◌, ◌<◌, ◌≤◌, Bool, true, false, cond, not, ◌&&◌, ◌||◌, IsTrue, List, [], ◌∷◌, length, All, refl, sym, ap, subst, ◌∙◌, arith}
use Rattle.std.proofs.lemmas.Bool.{ne_eqb, or_left}
use Rattle.std.proofs.lemmas.Bool.Decides.{nat_tests}
use Rattle.std.proofs.lemmas.Grind.{common_steps}
use Rattle.layout_geometry.specs.Geometry.{Geometry, bitmap_blocks, table_start, data_start}
use Rattle.layout_bytes.specs.Bitmap.{is_set}
use Rattle.engine_blocks.specs.Running.{has, has_bit, bit_block}
use Rattle.engine_blocks.specs.State.{Bookkeeping, State, IsReusable, after_take}
use Rattle.engine_blocks.specs.Calls.{IsWithTaken, IsReady}
use Rattle.engine_blocks.specs.Crashes.{IsTold}
use Rattle.engine_blocks.specs.Effects.{LeavesDisk}
use Rattle.engine_blocks.specs.Puts.{after_frees, IsData}
use Rattle.fs_files.specs.declared.changes.Changed.{Changed}
use Rattle.fs_files.specs.Drafts.{DraftState, change_of, bytes_or}
use Rattle.fs_files.specs.Shared.{is_kept}
use Rattle.fs_files.specs.Sound.{IsDraftOf}
use Rattle.fs_files.specs.Making.{after_changes, IsTableOrData, HasPut, HasFreed, HasMade}
use Rattle.fs_files.proofs.finishing.Basics.{bits_alike, leaves_on}
use Rattle.fs_files.proofs.finishing.Books.{by_keys, changes_keep}
use Rattle.fs_files.proofs.drafts.Lists.{each_of}

-- no bit is in the node table or the data
no_bit : (g : Geometry) (bs : List ℕ) (c : ℕ) → All (λ b. b < g.n) bs → table_start g ≤ c → has_bit g bs c ≡ false
no_bit g [] c all from = refl
no_bit g (b ∷ bs) c all from =
    ap (λ t. t || has_bit g bs c) (ne_eqb c (bit_block g b) (λ e. omega (arith, e, from, all 0 0 (omega arith))))
    ∙ no_bit g bs c (λ i d low. all (suc i) d (omega (arith, low))) from

puts_left : (k : Bookkeeping) (fresh : Bool) (cs : List (ℕ × Changed)) → (after_changes k fresh cs).spare.puts ≡ k.spare.puts - length cs
puts_left k fresh [] = omega arith
puts_left k fresh (c ∷ cs) = grind (
  arith,
  common_steps,
  (puts_left (record k {
    running = (after_changes k fresh (c ∷ [])).running;
    spare = (after_changes k fresh (c ∷ [])).spare;
  }) fresh cs),
)

-- The calls of a draft up to some step.

-- after the take
pub record HasTook (tells : Bool) (d : DraftState) (old new : State) : Type 0 where
  pub books : new.books ≡ after_take old.books d.taken
  pub map : IsTrue tells → IsWithTaken old.books.geom old.map new.map d.taken
  pub disk : LeavesDisk tells old new

module _ (tells : Bool) (d : DraftState) (s one : State) (draft : IsDraftOf tells s d) (ready : IsReady s.books.spare (length d.changed + length d.fresh) (length d.taken) (length d.freed)) (took : HasTook tells d s one) where
  one_geom : one.books.geom ≡ s.books.geom
  one_geom = ap (λ k. k.geom) took.books

  set_by : (t o : Bool) → (t || o) ≡ true → cond t true o ≡ true
  set_by t o e = grind (arith, nat_tests)

  -- what is taken or was marked is set
  set_after : IsTrue tells → IsTold s → (b : ℕ) → b < s.books.geom.n → (has d.taken b || s.books.marked b) ≡ true → is_set s.books.geom one.map b ≡ true
  set_after t told b low is =
      (took.map t).bits b (omega (arith, low))
      ∙ set_by (has d.taken b) (is_set s.books.geom s.map b) (ap (λ x. has d.taken b || x) (sym (told.bits b low)) ∙ is)

  taken_data : (b : ℕ) → has d.taken b ≡ true → IsReusable s.books.geom s.books.reusable b
  taken_data b is = each_of (IsReusable s.books.geom s.books.reusable) d.taken draft.fits.taken.each b is

  pub fresh_within : All (λ (e : ℕ × Changed). IsTableOrData one.books.geom e.0) d.fresh
  fresh_within = by_keys (IsTableOrData one.books.geom) d.fresh (λ b c is.
      subst (λ g. IsTableOrData g b) (sym one_geom) (let r = taken_data b (draft.fits.fresh b c is) in record { from = omega (arith, r.from); below = r.below }))

  pub fresh_marked : IsTrue tells → IsTold s → All (λ (e : ℕ × Changed). data_start one.books.geom ≤ e.0 → is_set one.books.geom one.map e.0 ≡ true) d.fresh
  fresh_marked t told = by_keys (λ b. data_start one.books.geom ≤ b → is_set one.books.geom one.map b ≡ true) d.fresh (λ b c is from.
      ap (λ g. is_set g one.map b) one_geom ∙ set_after t told b (taken_data b (draft.fits.fresh b c is)).below (ap (λ x. x || s.books.marked b) (draft.fits.fresh b c is)))

  module _ (two : State) (content : HasPut tells true d.fresh one two) where
    two_geom : two.books.geom ≡ s.books.geom
    two_geom = ap (λ k. k.geom) content.books ∙ changes_keep (λ k. k.geom) (λ k b class. refl) one.books true d.fresh ∙ one_geom

    -- the bits stay
    two_bits : IsTrue tells → (b : ℕ) → b < 8192 * bitmap_blocks s.books.geom → is_set s.books.geom two.map b ≡ is_set s.books.geom one.map b
    two_bits t = bits_alike s.books.geom one.map two.map (λ b low. content.before t b (subst (λ g. b < table_start g) (sym one_geom) low))

    -- the other changes may be put
    pub changed_room : length d.changed ≤ two.books.spare.puts
    changed_room = omega (arith, ap (λ k. k.spare.puts) content.books, puts_left one.books true d.fresh, ap (λ k. k.spare.puts) took.books, ready.enough_puts)

    pub changed_within : All (λ (e : ℕ × Changed). IsTableOrData two.books.geom e.0) d.changed
    changed_within = by_keys (IsTableOrData two.books.geom) d.changed (λ b c is. subst (λ g. IsTableOrData g b) (sym two_geom) (record { from = (draft.fits.changed b c is).0; below = (draft.fits.changed b c is).1 }))

    and_last : (x y : Bool) → (x && y) ≡ true → y ≡ true
    and_last x y e = grind (arith, nat_tests)

    pub changed_marked : IsTrue tells → IsTold s → All (λ (e : ℕ × Changed). data_start two.books.geom ≤ e.0 → is_set two.books.geom two.map e.0 ≡ true) d.changed
    changed_marked t told = by_keys (λ b. data_start two.books.geom ≤ b → is_set two.books.geom two.map b ≡ true) d.changed (λ b c is from.
        ap (λ g. is_set g two.map b) two_geom
        ∙ two_bits t b (omega (arith, (draft.fits.changed b c is).1))
        ∙ set_after t told b (draft.fits.changed b c is).1 (and_last (not (has d.freed b)) (has d.taken b || s.books.marked b)
        ((draft.sound t).bits b (subst (λ g. data_start g ≤ b) two_geom from) (draft.fits.changed b c is).1
        ∙ or_left ((draft.sound t).live b) (is_kept d.kept b) ((draft.sound t).changed b c is (subst (λ g. data_start g ≤ b) two_geom from)))))

    module _ (three : State) (others : HasPut tells false d.changed two three) where
      three_geom : three.books.geom ≡ s.books.geom
      three_geom = ap (λ k. k.geom) others.books ∙ changes_keep (λ k. k.geom) (λ k b class. refl) two.books false d.changed ∙ two_geom

      three_bits : IsTrue tells → (b : ℕ) → b < 8192 * bitmap_blocks s.books.geom → is_set s.books.geom three.map b ≡ is_set s.books.geom one.map b
      three_bits t b low = bits_alike s.books.geom two.map three.map (λ c l. others.before t c (subst (λ g. c < table_start g) (sym two_geom) l)) b low ∙ two_bits t b low

      -- the blocks may be freed
      pub freed_room : length d.freed ≤ three.books.spare.frees
      freed_room = omega (
        arith,
        ap (λ k. k.spare.frees) others.books,
        changes_keep (λ k. k.spare.frees) (λ k b class. refl) two.books false d.changed,
        ap (λ k. k.spare.frees) content.books,
        changes_keep (λ k. k.spare.frees) (λ k b class. refl) one.books true d.fresh,
        ap (λ k. k.spare.frees) took.books,
        ready.enough_frees,
      )

      pub freed_data : All (IsData three.books.geom) d.freed
      freed_data = subst (λ g. All (IsData g) d.freed) (sym three_geom) draft.fits.freed

      pub freed_marked : IsTrue tells → IsTold s → All (λ b. is_set three.books.geom three.map b ≡ true) d.freed
      freed_marked t told i e low = grind (arith, nat_tests, three_geom, three_bits, set_after)

      marks_by : (f t o : Bool) → cond f false (cond t true o) ≡ (not f && (t || o))
      marks_by f t o = grind (arith, nat_tests)

      pub all_made : (four : State) → HasFreed tells d.freed three four → HasMade tells d s four
      all_made four frees = record {
        books = frees.books ∙ ap (λ k. after_frees k d.freed) (others.books ∙ ap (λ k. after_changes k false d.changed) (content.books ∙ ap (λ k. after_changes k true d.fresh) took.books));
        map = λ t. record {
          lies = λ b from.
              (frees.map t).lies b (subst (λ g. table_start g ≤ b) (sym three_geom) from)
              ∙ ap (λ x. cond (has d.freed b) [] x)
              (others.map t b ∙ ap (λ x. bytes_or x (change_of d.changed b)) (content.map t b ∙ ap (λ x. bytes_or x (change_of d.fresh b)) ((took.map t).others b (no_bit s.books.geom d.taken b (λ i e low. (draft.fits.taken.each i e low).below) from))));
          bits = λ b low.
              ap (λ g. is_set g four.map b) (sym three_geom)
              ∙ (frees.map t).bits b (subst (λ g. b < 8192 * bitmap_blocks g) (sym three_geom) low)
              ∙ ap (λ x. cond (has d.freed b) false x) (ap (λ g. is_set g three.map b) three_geom ∙ three_bits t b low ∙ (took.map t).bits b low)
              ∙ marks_by (has d.freed b) (has d.taken b) (is_set s.books.geom s.map b);
        };
        disk = leaves_on tells s three four (leaves_on tells s two three (leaves_on tells s one two took.disk content.disk) others.disk) frees.disk;
      }
