-- The search from the root: it begins, goes on by a directory, and ends.
use Rattle.std.proofs.Common.{◌≡◌, ◌≢◌, ℕ, zero, suc, ◌+◌, ◌-◌, ◌<◌, ◌≤◌, true, false, Bool, List, [], ◌∷◌, ◌++◌, length, get_or, replicate, bytes_eq, cond, Option, None, Some, option_and_then, slice_get, refl, sym, ap, ◌∙◌, arith, subst, ◌⊎◌, inl, inr}
use Rattle.std.proofs.lemmas.Bool.{cases_lt, both_ways}
use Rattle.std.proofs.lemmas.List.{get_or-replicate, length-replicate, get_or_past}
use Rattle.std.proofs.lemmas.Option.{none-some, same_Some, slice_get_within}
use Rattle.base_types.specs.declared.layout.Layout.{Layout}
use Rattle.layout_bytes.specs.declared.slot.Slot.{Slot}
use Rattle.crash_stands.specs.Files.{Files}
use Rattle.crash_stands.specs.Inodes.{Inode, Inodes, ADir, AFile, AreDistinct, inodes_of}
use Rattle.crash_stands.specs.Walks.{Entries, node_in, entry_in, entries_of, walk, LeadsTo}
use Rattle.fs_snapshots.specs.Nodes.{same_slots}
use Rattle.fs_check.specs.declared.looked.Looked.{Looked}
use Rattle.fs_check.specs.declared.looked.Looked.TheVariants.{Unused, Directory, Links}
use Rattle.fs_check.specs.Looked.{seen, AreSeen}
use Rattle.fs_check.specs.Slots.{NameUsed, IsGoodDir}
use Rattle.fs_check.specs.Marks.{has_mark, Stands, WasDir, Marks, Searches, IsQueue, AreReached, targets}
use Rattle.fs_check.proofs.Marking.{stands_here, stands_alone, stands_none, stands_left, marked_most}
use Rattle.fs_check.proofs.Seeing.{seen_inside, dir_inside, was_dir}

-- The beginning.

blank_by : (n k : ℕ) → (k < n) ⊎ (n ≤ k) → get_or (replicate n false) k false ≡ false
blank_by n k (inl low) = get_or-replicate n k false false low
blank_by n k (inr high) = get_or_past (replicate n false) k false (omega (arith, length-replicate n false, high))

blank : (n k : ℕ) → has_mark (replicate n false) k ≡ true → ⊥
blank n k e = both_ways (has_mark (replicate n false) k) (blank_by n k (cases_lt k n)) e

-- the root alone has a mark, and stands in the queue
pub queue_first : (nodes : List Looked) (n : ℕ) (marks : List Bool) (queue : List ℕ) → n ≡ length nodes → Marks nodes (1 ∷ []) (replicate n false) marks [] queue → IsQueue nodes marks queue
queue_first nodes n marks queue is h = record {
  count = h.count ∙ length-replicate n false ∙ is;
  dirs = λ k s. dirs k (h.dirs k s);
  room = omega (arith, h.room);
}
  where
    dirs : (k : ℕ) → Stands [] k ⊎ ((has_mark marks k ≡ true) × WasDir nodes k) → (has_mark marks k ≡ true) × WasDir nodes k
    dirs k (inl s) = absurd (stands_none k s)
    dirs k (inr m) = m

pub searches_first : (nodes : List Looked) (m : Inodes) (n : ℕ) (marks : List Bool) (queue : List ℕ) → n ≡ length nodes → WasDir nodes 1 → Marks nodes (1 ∷ []) (replicate n false) marks [] queue → Searches nodes m marks queue 0
searches_first nodes m n marks queue is dir h = record {
  root = h.each 1 (stands_here 1) (omega (arith, length-replicate n false, dir_inside nodes 1 dir, is));
  paths = λ k e. paths k (h.only k e);
  queued = λ k e d. queued k (h.queued k e d);
  done = λ j k slots low at is_dir node s. absurd (omega (arith, low));
}
  where
    paths : (k : ℕ) → (has_mark (replicate n false) k ≡ true) ⊎ Stands (1 ∷ []) k → (path : List (List ℕ)) × LeadsTo m path k
    paths k (inl e) = absurd (blank n k e)
    paths k (inr s) = ([], ap Some (sym (stands_alone 1 k s)))

    queued : (k : ℕ) → (has_mark (replicate n false) k ≡ true) ⊎ Stands queue k → Stands queue k
    queued k (inl e) = absurd (blank n k e)
    queued k (inr s) = s

-- One directory more.

pub queue_more : (nodes : List Looked) (ns : List ℕ) (marks new : List Bool) (queue next : List ℕ) → Marks nodes ns marks new queue next → IsQueue nodes marks queue → IsQueue nodes new next
queue_more nodes ns marks new queue next h q = record {
  count = h.count ∙ q.count;
  dirs = λ k s. dirs k (h.dirs k s);
  room = omega (arith, h.room, q.room);
}
  where
    dirs : (k : ℕ) → Stands queue k ⊎ ((has_mark new k ≡ true) × WasDir nodes k) → (has_mark new k ≡ true) × WasDir nodes k
    dirs k (inl s) = let d = q.dirs k s in (h.keeps k d.0, d.1)
    dirs k (inr m) = m

-- the slot that names a node
record Target (slots : List Slot) (k : ℕ) : Type 0 where
  place : ℕ
  slot : Slot
  at : slice_get slots place ≡ Some slot
  names : slot.node ≡ k

target_at : (slots : List Slot) (k i : ℕ) → slice_get (targets slots) i ≡ Some k → Target slots k
target_at [] k i h = absurd (none-some k h)
target_at (s ∷ slots) k zero h = record { place = zero; slot = s; at = refl; names = same_Some s.node k h }
target_at (s ∷ slots) k (suc i) h = let t = target_at slots k i h in record { place = suc t.place; slot = t.slot; at = t.at; names = t.names }

target : (slots : List Slot) (k : ℕ) → Stands (targets slots) k → Target slots k
target slots k s = target_at slots k s.place s.at

-- what is under a name is what a slot names
named : (slots : List Slot) (name : List ℕ) (n : ℕ) → node_in slots name ≡ Some n → Stands (targets slots) n
named [] name n e = absurd (none-some n e)
named (x ∷ slots) name n e = by (bytes_eq x.name name) e (named slots name n)
  where
    by : (b : Bool) → cond b (Some x.node) (node_in slots name) ≡ Some n → (node_in slots name ≡ Some n → Stands (targets slots) n) → Stands (x.node ∷ targets slots) n
    by true h go = record { place = zero; at = h }
    by false h go = let t = go h in record { place = suc t.place; at = t.at }

-- The laws that are used: a walk by one name more, and what is under the name of a slot.
abbrev pub WalksOn : Type 0
WalksOn = (e : Entries) (k : ℕ) (up : List (List ℕ)) (name : List ℕ) → walk e k (up ++ name ∷ []) ≡ option_and_then (λ j. e j name) (walk e k up)

abbrev pub FindsOnly : Type 0
FindsOnly = (slots : List Slot) (place node : ℕ) (name : List ℕ) → AreDistinct slots → slice_get slots place ≡ Some (record { node = node; name = name }) → node_in slots name ≡ Some node

-- a path leads to what a slot of a directory names to which one leads
path_on : WalksOn → FindsOnly → (m : Inodes) (dir k : ℕ) (slots : List Slot) → m dir ≡ Some (ADir slots) → AreDistinct slots → (path : List (List ℕ)) × LeadsTo m path dir → Stands (targets slots) k → (path : List (List ℕ)) × LeadsTo m path k
path_on walks finds m dir k slots is distinct up s =
    let t = target slots k s in
    let there : node_in slots t.slot.name ≡ Some t.slot.node = finds slots t.place t.slot.node t.slot.name distinct t.at in (
      up.0 ++ t.slot.name ∷ [],
      walks (entries_of m) 1 up.0 t.slot.name
          ∙ ap (option_and_then (λ j. entries_of m j t.slot.name)) up.1
          ∙ ap (λ o. entry_in o t.slot.name) is
          ∙ there
          ∙ ap Some t.names,
    )

front_of : (xs ys : List ℕ) (i k : ℕ) → i < length xs → slice_get (xs ++ ys) i ≡ Some k → slice_get xs i ≡ Some k
front_of [] ys i k low h = absurd (omega (arith, low))
front_of (x ∷ xs) ys zero k low h = h
front_of (x ∷ xs) ys (suc i) k low h = front_of xs ys i k (omega (arith, low)) h

-- the search went through one directory more
pub searches_more : WalksOn → FindsOnly → (nodes : List Looked) (m : Inodes) (marks new : List Bool) (queue next : List ℕ) (at dir : ℕ) (slots : List Slot)
    → Searches nodes m marks queue at → IsQueue nodes marks queue → slice_get queue at ≡ Some dir → m dir ≡ Some (ADir slots) → AreDistinct slots → NameUsed nodes slots → Marks nodes (targets slots) marks new queue next
    → Searches nodes m new next (at + 1)
searches_more walks finds nodes m marks new queue next at dir slots s q here is distinct used h = record {
  root = h.keeps 1 s.root;
  paths = λ k e. paths k (h.only k e);
  queued = λ k e d. queued k d (h.queued k e d);
  done = λ j k others low at_j is_dir n t. done j k others low at_j is_dir n t (cases_lt j at);
}
  where
    first : (has_mark marks dir ≡ true) × WasDir nodes dir
    first = q.dirs dir (record { place = at; at = here })

    paths : (k : ℕ) → (has_mark marks k ≡ true) ⊎ Stands (targets slots) k → (path : List (List ℕ)) × LeadsTo m path k
    paths k (inl e) = s.paths k e
    paths k (inr t) = path_on walks finds m dir k slots is distinct (s.paths dir first.0) t

    queued : (k : ℕ) → WasDir nodes k → (has_mark marks k ≡ true) ⊎ Stands next k → Stands next k
    queued k d (inl e) = subst (λ xs. Stands xs k) (sym h.front.1) (stands_left queue h.front.0 k (s.queued k e d))
    queued k d (inr t) = t

    inside : (n : ℕ) → Stands (targets slots) n → n < length marks
    inside n t =
        let r = target slots n t in
        let low : n < length nodes = seen_inside nodes n (subst (λ j. seen nodes j ≢ Unused) r.names (used r.place r.slot r.at).used) in
        omega (arith, low, q.count)

    done : (j k : ℕ) (others : List Slot) → j < at + 1 → slice_get next j ≡ Some k → m k ≡ Some (ADir others) → (n : ℕ) → Stands (targets others) n → (j < at) ⊎ (at ≤ j) → has_mark new n ≡ true
    done j k others low at_j is_dir n t (inl less) =
        let there : slice_get (queue ++ h.front.0) j ≡ Some k = subst (λ xs. slice_get xs j ≡ Some k) h.front.1 at_j in
        h.keeps n (s.done j k others less (front_of queue h.front.0 j k (omega (arith, less, slice_get_within queue at dir here)) there) is_dir n t)
    done j k others low at_j is_dir n t (inr more) =
        let e : j ≡ at = omega (arith, low, more) in
        let there : slice_get (queue ++ h.front.0) at ≡ Some k = subst (λ xs. slice_get xs at ≡ Some k) h.front.1 (subst (λ i. slice_get next i ≡ Some k) e at_j) in
        let same : k ≡ dir = same_Some k dir (sym (front_of queue h.front.0 at k (slice_get_within queue at dir here) there) ∙ here) in
        let list : others ≡ slots = same_slots others slots (sym is_dir ∙ ap m same ∙ is) in
        let t' : Stands (targets slots) n = subst (λ ss. Stands (targets ss) n) list t in
        h.each n t' (inside n t')

-- The end.

module _ (layout : Layout) where
  -- what a marked node has under a name has a mark
  mark_under : (files : Files) (nodes : List Looked) (marks : List Bool) (queue : List ℕ) (at n j : ℕ) (name : List ℕ) (x : Option Inode) → AreSeen files nodes → Searches nodes (inodes_of layout files) marks queue at → length queue ≤ at → has_mark marks n ≡ true
      → inodes_of layout files n ≡ x → entry_in x name ≡ Some j → has_mark marks j ≡ true
  mark_under files nodes marks queue at n j name None h s all e is under = absurd (none-some j under)
  mark_under files nodes marks queue at n j name (Some (AFile l bytes)) h s all e is under = absurd (none-some j under)
  mark_under files nodes marks queue at n j name (Some (ADir slots)) h s all e is under =
      let p = s.queued n e (was_dir layout files nodes n slots h is) in
      s.done p.place n slots (omega (arith, all, slice_get_within queue p.place n p.at)) p.at is j (named slots name j under)

  closed : (files : Files) (nodes : List Looked) (marks : List Bool) (queue : List ℕ) (at : ℕ) → AreSeen files nodes → Searches nodes (inodes_of layout files) marks queue at → length queue ≤ at
      → (path : List (List ℕ)) (n k : ℕ) → has_mark marks n ≡ true → walk (entries_of (inodes_of layout files)) n path ≡ Some k → has_mark marks k ≡ true
  closed files nodes marks queue at h s all [] n k e w = subst (λ j. has_mark marks j ≡ true) (same_Some n k w) e
  closed files nodes marks queue at h s all (name ∷ path) n k e w = on (entries_of (inodes_of layout files) n name) refl w (closed files nodes marks queue at h s all path)
    where
      on : (o : Option ℕ) → entries_of (inodes_of layout files) n name ≡ o → option_and_then (λ j. walk (entries_of (inodes_of layout files)) j path) o ≡ Some k
          → ((i l : ℕ) → has_mark marks i ≡ true → walk (entries_of (inodes_of layout files)) i path ≡ Some l → has_mark marks l ≡ true) → has_mark marks k ≡ true
      on None is v go = absurd (none-some k v)
      on (Some j) is v go = go j k (mark_under files nodes marks queue at n j name (inodes_of layout files n) h s all e refl is) v

  -- all that is reached has a mark, and nothing else
  pub all_reached : (files : Files) (nodes : List Looked) (marks : List Bool) (queue : List ℕ) (at : ℕ) → AreSeen files nodes → Searches nodes (inodes_of layout files) marks queue at → length queue ≤ at → AreReached (inodes_of layout files) marks
  all_reached files nodes marks queue at h s all = record {
    paths = s.paths;
    others = λ path k leads. closed files nodes marks queue at h s all path 1 k s.root leads;
  }

-- A directory that was gone through, as the search needs it.

pub record GoodSlots (nodes : List Looked) (m : Inodes) (dir : ℕ) : Type 0 where
  pub slots : List Slot
  pub is_dir : m dir ≡ Some (ADir slots)
  pub distinct : AreDistinct slots
  pub names : NameUsed nodes slots

good_slots_as : (nodes : List Looked) (m : Inodes) (dir : ℕ) (look : Looked) (size : ℕ) → look ≡ Directory size → IsGoodDir nodes m dir look → GoodSlots nodes m dir
good_slots_as nodes m dir Unused size e h = absurd cc
good_slots_as nodes m dir (Directory n) size e h = record { slots = h.0; is_dir = h.1; distinct = h.2; names = h.3 }
good_slots_as nodes m dir (Links n) size e h = absurd cc

pub good_slots : (nodes : List Looked) (m : Inodes) (dir : ℕ) → WasDir nodes dir → IsGoodDir nodes m dir (seen nodes dir) → GoodSlots nodes m dir
good_slots nodes m dir d h = good_slots_as nodes m dir (seen nodes dir) d.0 d.1 h

-- the turns that are left
pub fewer : (nodes : List Looked) (marks : List Bool) (queue : List ℕ) (at : ℕ) → IsQueue nodes marks queue → at < length queue → length nodes - (at + 1) < length nodes - at
fewer nodes marks queue at q low = omega (arith, low, q.room, q.count, marked_most marks)
