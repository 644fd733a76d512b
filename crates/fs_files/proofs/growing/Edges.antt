-- What a copied edge leaves: the block that got bytes has those of the kept one, and the others are as before.
use Rattle.std.proofs.Common.{◌≡◌, ◌≢◌, ◌⊎◌, inl, inr, ℕ, ◌/◌, ◌%◌, ◌==◌, Bool, true, false, ◌||◌, if◌then◌else◌, IsTrue, List, [], ◌∷◌, length, slice_get, Option, None, Some, is_some, All, refl, sym, ap, subst, ◌∙◌, arith, rules}
use Rattle.std.specs.Prelude.{option_and_then}
use Rattle.std.proofs.lemmas.Bool.{cases_eq, false≢true, eqb-true, or_left, or_right, or_cases, false_from_ne_true}
use Rattle.std.proofs.lemmas.Option.{none-some, same_Some}
use Rattle.std.proofs.lemmas.Bool.Decides.{nat_tests}
use Rattle.fs_files.proofs.bytes.Joins.{of_place}
use Rattle.base_types.specs.Seal.{Blocks}
use Rattle.base_types.specs.declared.words.Class.{Class}
use Rattle.engine_blocks.specs.Running.{has}
use Rattle.fs_files.specs.Content.{HasContent, WritesContent}
use Rattle.fs_files.specs.Drafts.{DraftState, change_of, drafted, PutsBlock}
use Rattle.fs_files.specs.declared.changes.Changed.{Changed}
use Rattle.fs_files.specs.Growing.{edge_of, CopiesEdge}
use Rattle.fs_files.proofs.bytes.Pieces.{content_kept, content_put, drafted_kept, has_one, writes_none}
use Rattle.fs_files.proofs.drafts.Lists.{each_of}
use Rattle.fs_files.proofs.frames.Places.{all_of}

-- Which blocks were written.

pub writes_wide : (class : Class) (bs cs : List ℕ) (d e : DraftState) → WritesContent class bs d e → ((q : ℕ) → has bs q ≡ true → has cs q ≡ true) → WritesContent class cs d e
writes_wide class bs cs d e w wide = record {
  kept = w.kept;
  others = λ q out. w.others q (outside q out);
  other_fresh = λ q out. w.other_fresh q (outside q out);
  keys = λ q some. key q (or_cases (has bs q) (is_some (change_of d.changed q)) (w.keys q some));
  stays = w.stays;
  fresh_keys = w.fresh_keys;
  fresh_len = w.fresh_len;
  taken = w.taken;
  freed = w.freed;
  apart = w.apart;
  class_changed = w.class_changed;
  class_fresh = w.class_fresh;
}
  where
    outside : (q : ℕ) → has cs q ≡ false → has bs q ≡ false
    outside q out = false_from_ne_true (has bs q) (λ is. false≢true (sym out ∙ wide q is))

    key : (q : ℕ) → (has bs q ≡ true) ⊎ (is_some (change_of d.changed q) ≡ true) → (has cs q || is_some (change_of d.changed q)) ≡ true
    key q (inl is) = or_left (has cs q) (is_some (change_of d.changed q)) (wide q is)
    key q (inr was) = or_right (has cs q) (is_some (change_of d.changed q)) was

pub writes_both : (class : Class) (bs : List ℕ) (d e f : DraftState) → WritesContent class bs d e → WritesContent class bs e f → WritesContent class bs d f
writes_both class bs d e f first second = record {
  kept = second.kept ∙ first.kept;
  others = λ q out. second.others q out ∙ first.others q out;
  other_fresh = λ q out. second.other_fresh q out ∙ first.other_fresh q out;
  keys = λ q some. key q (or_cases (has bs q) (is_some (change_of e.changed q)) (second.keys q some));
  stays = λ q some. second.stays q (first.stays q some);
  fresh_keys = λ q. second.fresh_keys q ∙ first.fresh_keys q;
  fresh_len = second.fresh_len ∙ first.fresh_len;
  taken = second.taken ∙ first.taken;
  freed = second.freed ∙ first.freed;
  apart = λ q some. second.apart q (first.fresh_keys q ∙ some) ∙ first.apart q some;
  class_changed = λ q o at. on (change_of e.changed q ≡ Some o) (change_of d.changed q ≡ Some o) (o.class ≡ class) (second.class_changed q o at) (first.class_changed q o);
  class_fresh = λ q o at. on (change_of e.fresh q ≡ Some o) (change_of d.fresh q ≡ Some o) (o.class ≡ class) (second.class_fresh q o at) (first.class_fresh q o);
}
  where
    key : (q : ℕ) → (has bs q ≡ true) ⊎ (is_some (change_of e.changed q) ≡ true) → (has bs q || is_some (change_of d.changed q)) ≡ true
    key q (inl one) = or_left (has bs q) (is_some (change_of d.changed q)) one
    key q (inr some) = first.keys q some

    on : (A B C : Type 0) → C ⊎ A → (A → C ⊎ B) → C ⊎ B
    on A B C (inl x) go = inl x
    on A B C (inr x) go = go x

put_writes : (b : ℕ) (c : Changed) (d e : DraftState) → PutsBlock b c d e → WritesContent c.class (b ∷ []) d e
put_writes b c d e puts = search (rules, arith)

pub copy_writes : (tells : Bool) (m : Blocks) (class : Class) (c : ℕ) (from : Option ℕ) (d e : DraftState) (cs : List ℕ) → ((b : ℕ) → from ≡ Some b → has cs c ≡ true) → CopiesEdge tells m class c from d e → WritesContent class cs d e
copy_writes tells m class c None d e cs there copies = subst (WritesContent class cs d) (sym copies) (writes_none class cs d)
copy_writes tells m class c (Some b) d e cs there copies =
    writes_wide class (c ∷ []) cs d e (put_writes c (record { class = class; bytes = copies.bytes }) d e copies.puts) (λ q one. ap (has cs) (has_one c q one) ∙ there b refl)

-- What the blocks have.

pub copy_none : (tells : Bool) (m : Blocks) (class : Class) (c : ℕ) (from : Option ℕ) (d e : DraftState) → from ≡ None → CopiesEdge tells m class c from d e → e ≡ d
copy_none tells m class c None d e is copies = copies
copy_none tells m class c (Some b) d e is copies = absurd (none-some b (sym is))

not_one : (c q : ℕ) → q ≢ c → has (c ∷ []) q ≡ false
not_one c q differs = false_from_ne_true (has (c ∷ []) q) (λ one. differs (has_one c q one))

pub copy_others : (tells : Bool) (m : Blocks) (class : Class) (c : ℕ) (from : Option ℕ) (d e : DraftState) (q : ℕ) → (is_some from ≡ true → q ≢ c) → CopiesEdge tells m class c from d e → drafted e m q ≡ drafted d m q
copy_others tells m class c None d e q away copies = ap (λ (x : DraftState). drafted x m q) copies
copy_others tells m class c (Some b) d e q away copies = drafted_kept m class (c ∷ []) d e q (put_writes c (record { class = class; bytes = copies.bytes }) d e copies.puts) (not_one c q (away refl))

pub copy_here : (tells : Bool) (m : Blocks) (class : Class) (c : ℕ) (from : Option ℕ) (d e : DraftState) (b : ℕ) → from ≡ Some b → IsTrue tells → length (drafted d m b) ≡ 1024 → HasContent m d (c ∷ []) → CopiesEdge tells m class c from d e
    → drafted e m c ≡ drafted d m b
copy_here tells m class c None d e b is told whole content copies = absurd (none-some b is)
copy_here tells m class c (Some x) d e b is told whole content copies =
    let same : x ≡ b = same_Some x b is in
    content_put m c (record { class = class; bytes = copies.bytes }) d e content copies.puts
    ∙ copies.same told (ap (λ y. length (drafted d m y)) same ∙ whole) ∙ ap (λ y. drafted d m y) same

-- all places have content then
pub copy_content : (tells : Bool) (m : Blocks) (class : Class) (c : ℕ) (from : Option ℕ) (d e : DraftState) (ps : List ℕ) → IsTrue tells → HasContent m d ps → ((b : ℕ) → from ≡ Some b → length (drafted d m b) ≡ 1024) → HasContent m d (c ∷ [])
    → CopiesEdge tells m class c from d e → HasContent m e ps
copy_content tells m class c None d e ps told content whole here copies = subst (λ (x : DraftState). HasContent m x ps) (sym copies) content
copy_content tells m class c (Some b) d e ps told content whole here copies =
    content_kept m class (c ∷ []) d e ps content (put_writes c (record { class = class; bytes = copies.bytes }) d e copies.puts)
    (all_of (λ q. length (drafted e m q) ≡ 1024) ps (λ q is. by q is (cases_eq q c)))
  where
    by : (q : ℕ) → has ps q ≡ true → (q ≡ c) ⊎ (q ≡ c → ⊥) → length (drafted e m q) ≡ 1024
    by q is (inl same) = ap (λ x. length (drafted e m x)) same ∙ ap length (copy_here tells m class c (Some b) d e b refl told (whole b refl) here copies) ∙ whole b refl
    by q is (inr away) = ap length (copy_others tells m class c (Some b) d e q (λ some. away) copies) ∙ each_of (λ x. length (drafted d m x) ≡ 1024) ps content.whole q is

-- Which block an edge is.

edge_by : (t : Bool) (kept : ℕ → Bool) (x : Option ℕ) (b : ℕ) → (if t then None else option_and_then (λ c. if kept c then Some c else None) x) ≡ Some b → (x ≡ Some b) × (kept b ≡ true)
edge_by true kept x b e = absurd (none-some b e)
edge_by false kept None b e = absurd (none-some b e)
edge_by false kept (Some c) b e = by (kept c) refl e
  where
    by : (u : Bool) → kept c ≡ u → (if u then Some c else None) ≡ Some b → (Some c ≡ Some b) × (kept b ≡ true)
    by true is h = (h, ap kept (sym (same_Some c b h)) ∙ is)
    by false is h = absurd (none-some b h)

pub edge_is : (kept : ℕ → Bool) (at : ℕ) (ps : List ℕ) (b : ℕ) → edge_of kept at ps ≡ Some b → (slice_get ps (at / 1024) ≡ Some b) × (kept b ≡ true)
edge_is kept at ps b e = edge_by (at % 1024 == 0) kept (slice_get ps (at / 1024)) b e

-- where none is kept there is none
pub edge_none : (kept : ℕ → Bool) (at : ℕ) (ps : List ℕ) → All (λ b. kept b ≡ false) ps → edge_of kept at ps ≡ None
edge_none kept at ps none = by (edge_of kept at ps) (edge_is kept at ps)
  where
    by : (o : Option ℕ) → ((b : ℕ) → o ≡ Some b → (slice_get ps (at / 1024) ≡ Some b) × (kept b ≡ true)) → o ≡ None
    by None is = refl
    by (Some b) is = absurd (false≢true (sym (of_place (λ c. kept c ≡ false) ps (at / 1024) b none (is b refl).0) ∙ (is b refl).1))

pub edge_there : (kept : ℕ → Bool) (at : ℕ) (ps : List ℕ) (b : ℕ) → at % 1024 ≢ 0 → slice_get ps (at / 1024) ≡ Some b → kept b ≡ true → edge_of kept at ps ≡ Some b
edge_there kept at ps b part is mine =
    ap (λ t. if t then None else option_and_then (λ c. if kept c then Some c else None) (slice_get ps (at / 1024))) (false_from_ne_true (at % 1024 == 0) (λ e. part (eqb-true (at % 1024) 0 e)))
    ∙ ap (λ x. option_and_then (λ c. if kept c then Some c else None) x) is ∙ ap (λ t. if t then Some b else None) mine

-- it isn't the first byte of its block
pub edge_part : (kept : ℕ → Bool) (at : ℕ) (ps : List ℕ) → is_some (edge_of kept at ps) ≡ true → at % 1024 ≢ 0
edge_part kept at ps some none = false≢true (sym (ap (λ t. is_some (if t then None else option_and_then (λ c. if kept c then Some c else None) (slice_get ps (at / 1024)))) zero_at) ∙ some)
  where
    zero_at : (at % 1024 == 0) ≡ true
    zero_at = grind (arith, nat_tests, none)

pub some_is : (x : Option ℕ) → is_some x ≡ true → (b : ℕ) × (x ≡ Some b)
some_is None e = absurd (false≢true e)
some_is (Some b) e = (b, refl)
