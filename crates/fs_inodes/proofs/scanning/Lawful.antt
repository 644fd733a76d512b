-- An inode map that follows the rules is that of a tree: a scan goes on while a directory isn't through, and it ends since each step sees a slot more.
use Rattle.std.proofs.Common.{◌≡◌, ◌≢◌, ℕ, zero, suc, ◌+◌, ◌≤◌, ◌<◌, if◌then◌else◌, List, [], ◌∷◌, ◌++◌, length, Option, Some, None, option_map, option_and_then, sym, refl, ap, ◌∙◌, ◌⊎◌, inl, inr, arith, append-nil, append_assoc, length-append, eq-eqb}
use Rattle.std.proofs.lemmas.Bool.{cases_eq}
use Rattle.std.specs.FinMap.{get}
use Rattle.std.proofs.lemmas.Option.{none-some}
use Rattle.layout_bytes.specs.declared.slot.Slot.{Slot}
use Rattle.lang_tree.specs.Tree.{Tree, Dir, File, in_layout_one}
use Rattle.lang_tree.specs.Step.{start}
use Rattle.crash_stands.specs.Inodes.{Inode, Inodes, ADir, AFile, thing_of, root_alone}
use Rattle.crash_stands.specs.Walks.{entries_of, node_in, walk}
use Rattle.crash_stands.specs.Maps.{IsMapOf}
use Rattle.fs_inodes.specs.Lookups.{slots_of}
use Rattle.fs_inodes.specs.Changes.{slot_of, with_inode, AddsSlot}
use Rattle.fs_inodes.specs.Links.{naming, naming_from, slots_naming}
use Rattle.fs_inodes.specs.Rules.{FollowsRules}
use Rattle.fs_inodes.specs.Scan.{IsPartOf, IsThrough, SawAll, LinksFit}
use Rattle.fs_inodes.specs.TreeLaws.{TreeLaws}
use Rattle.fs_inodes.proofs.basics.Paths.{Path}
use Rattle.fs_inodes.proofs.agreement.Steps.{step_at}
use Rattle.fs_inodes.proofs.agreement.Agree.{Agrees, agrees, inode_named}
use Rattle.fs_inodes.proofs.commands.Adding.{one_dir, dir_file}
use Rattle.fs_inodes.proofs.sums.Totals.{sum_from}
use Rattle.fs_inodes.proofs.lookups.NamingSlots.{paths_are_slots, file_apart}
use Rattle.fs_inodes.proofs.scanning.Scanning.{root_is_part, node_seen, path_seen, path_to, whole_is_map, dir_part, file_part}
use Rattle.fs_inodes.proofs.scanning.Damage.{next_name_new, next_at}
use Rattle.fs_inodes.proofs.commands.Made.{adds}

-- Sums that grow.

-- a sum of no smaller numbers is no smaller
sum_le : (f h : ℕ → ℕ) → ((i : ℕ) → f i ≤ h i) → (k n : ℕ) → sum_from f k n ≤ sum_from h k n
sum_le f h le k zero = omega arith
sum_le f h le k (suc n) = let rest = sum_le f h le (k + 1) n in omega (arith, rest, le k)

-- and greater where one of them is
sum_less : (f h : ℕ → ℕ) → ((i : ℕ) → f i ≤ h i) → (j k n : ℕ) → k ≤ j → j < k + n → f j < h j → sum_from f k n < sum_from h k n
sum_less f h le j k zero low high less = absurd (omega (arith, low, high))
sum_less f h le j k (suc n) low high less = grind (arith, sum_less f h le j (k + 1) n, cases_eq k j, k + 1, sum_from, sum_le)

-- the slots that name a node, as a sum over directories
naming_sum : (m : Inodes) (n k c : ℕ) → naming_from m n k c ≡ sum_from (λ j. naming n (slots_of (m j))) k c
naming_sum m n k zero = refl
naming_sum m n k (suc c) = ap (λ s. naming n (slots_of (m k)) + s) (naming_sum m n (k + 1) c)

-- of two lists in a row
naming_joined : (n : ℕ) (xs ys : List Slot) → naming n (xs ++ ys) ≡ naming n xs + naming n ys
naming_joined n [] ys = omega arith
naming_joined n (s ∷ xs) ys = let rest = naming_joined n xs ys in omega (arith, rest)

-- how many slots were seen
abbrev seen_slots : ℕ → Inodes → ℕ
seen_slots limit m = sum_from (λ k. length (slots_of (m k))) 1 limit

-- A part has no more slots than the whole.

module _ (m w : Inodes) (part : IsPartOf m w) where
  -- what was seen of a directory is a front of its slots
  part_of : (k : ℕ) (o : Option Inode) → m k ≡ o → (rest : List Slot) × (slots_of (w k) ≡ slots_of o ++ rest)
  part_of k None is = (slots_of (w k), refl)
  part_of k (Some (ADir slots)) is = let r = part.dirs k slots is in (r.0, ap slots_of r.1)
  part_of k (Some (AFile links bytes)) is = (slots_of (w k), refl)

  -- so it has no more slots
  few_slots : (k : ℕ) → length (slots_of (m k)) ≤ length (slots_of (w k))
  few_slots k = let r = part_of k (m k) refl in omega (arith, ap length r.1, length-append (slots_of (m k)) r.0)

  -- and no more that name a node
  few_names : (n k : ℕ) → naming n (slots_of (m k)) ≤ naming n (slots_of (w k))
  few_names n k = let r = part_of k (m k) refl in omega (arith, ap (naming n) r.1, naming_joined n (slots_of (m k)) r.0)

  -- a directory that isn't through
  record IsOpen (d : ℕ) : Type 0 where
    slots : List Slot
    next : Slot
    rest : List Slot
    here : m d ≡ Some (ADir slots)
    whole : w d ≡ Some (ADir (slots ++ next ∷ rest))

  -- a directory that is through
  abbrev IsDone : ℕ → Type 0
  IsDone k = (slots : List Slot) → m k ≡ Some (ADir slots) → w k ≡ Some (ADir slots)

  -- each directory is through, or has a slot to come
  open_or_done : (k : ℕ) → IsOpen k ⊎ IsDone k
  open_or_done k = by (m k) refl
    where
      in_dir : (slots : List Slot) → m k ≡ Some (ADir slots) → (rest : List Slot) → w k ≡ Some (ADir (slots ++ rest)) → IsOpen k ⊎ IsDone k
      in_dir slots is [] all = inr (λ others at. all ∙ ap (λ l. Some (ADir l)) (append-nil slots ∙ one_dir slots others is at))
      in_dir slots is (s ∷ rest) all = inl (record { slots = slots; next = s; rest = rest; here = is; whole = all })

      by : (o : Option Inode) → m k ≡ o → IsOpen k ⊎ IsDone k
      by None is = inr (λ slots at. absurd (none-some (ADir slots) (sym is ∙ at)))
      by (Some (ADir slots)) is = let r = part.dirs k slots is in in_dir slots is r.0 r.1
      by (Some (AFile links bytes)) is = inr (λ slots at. absurd (dir_file slots links bytes at is))

  -- some directory of the range has a slot to come, or all are through
  search_open : (k n : ℕ) → ((d : ℕ) × (k ≤ d) × (d < k + n) × IsOpen d) ⊎ ((j : ℕ) → k ≤ j → j < k + n → IsDone j)
  search_open k zero = inr (λ j low high. absurd (omega (arith, low, high)))
  search_open k (suc n) = by (open_or_done k) (search_open (k + 1) n)
    where
      by : IsOpen k ⊎ IsDone k → ((d : ℕ) × (k + 1 ≤ d) × (d < k + 1 + n) × IsOpen d) ⊎ ((j : ℕ) → k + 1 ≤ j → j < k + 1 + n → IsDone j)
          → ((d : ℕ) × (k ≤ d) × (d < k + suc n) × IsOpen d) ⊎ ((j : ℕ) → k ≤ j → j < k + suc n → IsDone j)
      by (inl here) later = inl (k, omega arith, omega arith, here)
      by (inr done) (inl r) = inl (r.0, omega (arith, r.1), omega (arith, r.2), r.3)
      by (inr done) (inr all) = inr (λ j low high. at j low high (cases_eq j k))
        where
          at : (j : ℕ) → k ≤ j → j < k + suc n → (j ≡ k) ⊎ (j ≡ k → ⊥) → IsDone j
          at j h1 h2 h3 = grind arith

-- One step of the scan.

module _ (laws : TreeLaws) (limit : ℕ) (w : Inodes) (rules : FollowsRules limit w) where
  -- what was seen: a tree stands for it, and it is a part of the whole
  record Seen (m : Inodes) : Type 0 where
    tree : Tree
    map : IsMapOf limit m tree
    part : IsPartOf m w

  -- a map in which one slot more was seen
  record Grown (m : Inodes) : Type 0 where
    new : Inodes
    seen : Seen new
    more : seen_slots limit m < seen_slots limit new

  module _ (m : Inodes) (s : Seen m) (d : ℕ) (slots rest : List Slot) (next : Slot) (here : m d ≡ Some (ADir slots)) (whole : w d ≡ Some (ADir (slots ++ next ∷ rest))) where
    -- what was seen agrees with its tree
    a : Agrees limit m s.tree
    a = agrees laws limit m s.tree s.map

    -- the directory has a number of a node
    within : (1 ≤ d) × (d ≤ limit)
    within = s.map.within d (ADir slots) here

    -- the next slot has a new name
    new_name : node_in slots next.name ≡ None
    new_name = next_name_new slots rest next (rules.distinct d (slots ++ next ∷ rest) whole)

    -- the next slot names a node in use, and not the root
    in_use : (next.node ≢ 1) × ((x : Inode) × (w next.node ≡ Some x))
    in_use = rules.named d (length slots) (slots ++ next ∷ rest) next whole (next_at slots next rest)

    -- a directory that was seen is named already, and would be named twice
    not_twice : (below all : List Slot) → m next.node ≡ Some (ADir below) → w next.node ≡ Some (ADir all) → ⊥
    not_twice below all seen there =
        let dir : get s.tree.nodes next.node ≡ Some Dir = a.nodes next.node ∙ ap (option_map thing_of) seen in
        let p = path_to limit m s.tree a next.node (ADir below) seen in
        let once : slots_naming limit m next.node ≡ 1 = sym (paths_are_slots laws limit m s.tree a next.node in_use.0) ∙ laws.count_dir limit s.tree p.0 next.node a.sound p.1 dir in
        let more : naming next.node (slots_of (m d)) < naming next.node (slots_of (w d)) = named_here in
        let less = sum_less (λ k. naming next.node (slots_of (m k))) (λ k. naming next.node (slots_of (w k))) (few_names m w s.part next.node) d 1 limit within.0 (omega (arith, within.1)) more in
        omega (arith, once, rules.dirs next.node all there in_use.0, less, naming_sum m next.node 1 limit, naming_sum w next.node 1 limit)
      where
        itself : (n : ℕ) (list : List Slot) → naming n (slot_of n (next.name) ∷ list) ≡ 1 + naming n list
        itself n list = ap (λ b. (if b then 1 else 0) + naming n list) (eq-eqb n n refl)

        named_here : naming next.node (slots_of (m d)) < naming next.node (slots_of (w d))
        named_here = grind (arith, next.node, naming_joined, itself)

    -- the map with a slot more has more slots
    grows : (new : Inodes) (n : ℕ) (name : List ℕ) (x : Inode) → slots_of (m n) ≡ [] → AddsSlot m new d n name x → (k : ℕ) → length (slots_of (m k)) ≤ length (slots_of (new k))
    grows new n name x bare ch k = grind (arith, cases_eq k d, cases_eq k n, ch.dir, ch.added, length-append, ch.slots, ch.others)

    -- one slot more was seen
    grown : (new : Inodes) (n : ℕ) (name : List ℕ) (x : Inode) → slots_of (m n) ≡ [] → AddsSlot m new d n name x → seen_slots limit m < seen_slots limit new
    grown new n name x bare ch = sum_less (λ k. length (slots_of (m k))) (λ k. length (slots_of (new k))) (grows new n name x bare ch) d 1 limit within.0 (omega (arith, within.1))
        (omega (arith, ap (λ o. length (slots_of o)) ch.dir, ap (λ o. length (slots_of o)) ch.added, length-append ch.slots (slot_of n name ∷ [])))

    -- the map with the slot that comes next, and its node as x
    next_map : Inode → Inodes
    next_map x = with_inode (with_inode m next.node (Some x)) d (Some (ADir (slots ++ next ∷ [])))

    -- its slots are those of the directory
    own_name : (new : Inodes) (x : Inode) (ch : AddsSlot m new d next.node next.name x) → node_in ch.slots next.name ≡ None
    own_name new x ch = ap (λ l. node_in l next.name) (one_dir ch.slots slots ch.dir here) ∙ new_name

    -- the directory of the whole goes on with the slot
    own_whole : (new : Inodes) (x : Inode) (ch : AddsSlot m new d next.node next.name x) → w d ≡ Some (ADir (ch.slots ++ slot_of next.node next.name ∷ rest))
    own_whole new x ch = whole ∙ ap (λ l. Some (ADir (l ++ next ∷ rest))) (sym (one_dir ch.slots slots ch.dir here))

    -- the slot comes behind those that were seen
    change : (x : Inode) → d ≢ next.node → AddsSlot m (next_map x) d next.node next.name x
    unfolding next_map
    change x off = adds m d next.node next.name x slots here off

    -- the node has a number of one
    number : (x : Inode) → w next.node ≡ Some x → (1 ≤ next.node) × (next.node ≤ limit)
    number x there = rules.within next.node x there

    -- a node that wasn't seen isn't the directory
    apart : m next.node ≡ None → d ≢ next.node
    apart none e = none-some (ADir slots) (sym (ap m e ∙ none) ∙ here)

    -- nor is a file
    apart_file : (links : ℕ) (bytes : List ℕ) → m next.node ≡ Some (AFile links bytes) → d ≢ next.node
    apart_file links bytes file e = dir_file slots links bytes here (ap m e ∙ file)

    -- the slot names a directory that wasn't seen
    go_dir : (below : List Slot) → w next.node ≡ Some (ADir below) → m next.node ≡ None → Grown m
    go_dir below there none =
        let ch = change (ADir []) (apart none) in
        let at = number (ADir below) there in
        let u = node_seen laws limit m (next_map (ADir [])) s.tree s.map d next.node next.name Dir ch (own_name _ _ ch) none at.0 at.1 in
        record {
          new = next_map (ADir []);
          seen = record { tree = u.0; map = u.1; part = dir_part m (next_map (ADir [])) w d next.node next.name below rest ch s.part (own_whole _ _ ch) there };
          more = grown (next_map (ADir [])) next.node next.name (ADir []) (ap slots_of none) ch;
        }

    -- it names a file that wasn't seen
    go_file : (all : ℕ) (bytes : List ℕ) → w next.node ≡ Some (AFile all bytes) → m next.node ≡ None → Grown m
    go_file all bytes there none =
        let ch = change (AFile 1 bytes) (apart none) in
        let at = number (AFile all bytes) there in
        let u = node_seen laws limit m (next_map (AFile 1 bytes)) s.tree s.map d next.node next.name (File bytes) ch (own_name _ _ ch) none at.0 at.1 in
        record {
          new = next_map (AFile 1 bytes);
          seen = record { tree = u.0; map = u.1; part = file_part m (next_map (AFile 1 bytes)) w d next.node next.name 1 all bytes rest ch s.part (own_whole _ _ ch) there };
          more = grown (next_map (AFile 1 bytes)) next.node next.name (AFile 1 bytes) (ap slots_of none) ch;
        }

    -- it names a file that was seen
    go_path : (links all : ℕ) (old bytes : List ℕ) → w next.node ≡ Some (AFile all bytes) → m next.node ≡ Some (AFile links old) → Grown m
    go_path links all old bytes there seen =
        let r = s.part.files next.node links old seen in
        let ch = change (AFile (links + 1) old) (apart_file links old seen) in
        let u = path_seen laws limit m (next_map (AFile (links + 1) old)) s.tree s.map d next.node next.name links old ch (own_name _ _ ch) seen in
        record {
          new = next_map (AFile (links + 1) old);
          seen = record { tree = u.0; map = u.1; part = file_part m (next_map (AFile (links + 1) old)) w d next.node next.name (links + 1) r.0 old rest ch s.part (own_whole _ _ ch) r.1 };
          more = grown (next_map (AFile (links + 1) old)) next.node next.name (AFile (links + 1) old) (ap slots_of seen) ch;
        }

    -- in each case the scan goes on
    go_on : Grown m
    go_on = by in_use.1.0 in_use.1.1 (m next.node) refl
      where
        by : (x : Inode) → w next.node ≡ Some x → (o : Option Inode) → m next.node ≡ o → Grown m
        by (ADir below) there None none = go_dir below there none
        by (ADir below) there (Some (ADir seen)) is = absurd (not_twice seen below is there)
        by (ADir below) there (Some (AFile links bytes)) is = let r = s.part.files next.node links bytes is in absurd (dir_file below r.0 bytes there r.1)
        by (AFile all bytes) there None none = go_file all bytes there none
        by (AFile all bytes) there (Some (ADir seen)) is = let r = s.part.dirs next.node seen is in absurd (dir_file (seen ++ r.0) all bytes r.1 there)
        by (AFile all bytes) there (Some (AFile links old)) is = go_path links all old bytes there is

  -- The end.

  module _ (m : Inodes) (s : Seen m) (through : IsThrough m w) where
    -- what was seen agrees with its tree
    e : Agrees limit m s.tree
    e = agrees laws limit m s.tree s.map

    -- what was seen has the entries of the whole
    same_in_use : (k : ℕ) (x : Inode) (b : List ℕ) → m k ≡ Some x → entries_of w k b ≡ entries_of m k b
    same_in_use k x b h1 = grind (arith, s.part.files)

    used_at : (p : Path) (k : ℕ) → get s.tree.names p ≡ Some k → (x : Inode) × (m k ≡ Some x)
    used_at = inode_named limit m s.tree e

    -- where the whole map leads, a path of the tree does
    leads_there : (here rest : Path) (k j : ℕ) → get s.tree.names here ≡ Some k → walk (entries_of w) k rest ≡ Some j → get s.tree.names (here ++ rest) ≡ Some j
    leads_there here [] k j at ends = ap (get s.tree.names) (append-nil here) ∙ at ∙ ends
    leads_there here (b ∷ rest) k j at ends =
        by (entries_of w k b) refl ends (λ i on more. leads_there (here ++ b ∷ []) rest i j on more)
      where
        x : (x : Inode) × (m k ≡ Some x)
        x = used_at here k at

        by : (o : Option ℕ) → entries_of w k b ≡ o → option_and_then (λ i. walk (entries_of w) i rest) o ≡ Some j
            → ((i : ℕ) → get s.tree.names (here ++ b ∷ []) ≡ Some i → walk (entries_of w) i rest ≡ Some j → get s.tree.names ((here ++ b ∷ []) ++ rest) ≡ Some j)
            → get s.tree.names (here ++ b ∷ rest) ≡ Some j
        by None is ends go = absurd (none-some j ends)
        by (Some i) is ends go =
            ap (get s.tree.names) (sym (append_assoc here (b ∷ []) rest))
            ∙ go i (step_at (entries_of m) (get s.tree.names) e.goes here b k at ∙ sym (same_in_use k x.0 b x.1) ∙ is) ends

    -- each node in use was seen
    saw_all : SawAll m w
    saw_all k x at = let p = rules.reached k x at in used_at p.0 k (leads_there [] p.0 1 k e.sound.root p.1)

    -- each directory has its slots
    same_slots : (k : ℕ) → slots_of (m k) ≡ slots_of (w k)
    same_slots k = grind (arith, m k, w k, saw_all, none-some, s.part.files)

    -- and each node is named as often
    same_sum : (n k c : ℕ) → naming_from m n k c ≡ naming_from w n k c
    same_sum n k zero = refl
    same_sum n k (suc c) = ap (λ l. naming n l + naming_from m n (k + 1) c) (same_slots k) ∙ ap (λ x. naming n (slots_of (w k)) + x) (same_sum n (k + 1) c)

    -- so each file says how many slots name it
    links_fit : LinksFit m w
    links_fit k seen all bytes more in_m in_w =
        sym (e.links k seen bytes in_m) ∙ paths_are_slots laws limit m s.tree e k (file_apart limit m s.tree s.map k seen bytes in_m) ∙ same_sum k 1 limit ∙ rules.links k all more in_w

    -- the tree of what was seen is that of the whole
    found_tree : (t : Tree) × IsMapOf limit w t
    found_tree = (s.tree, whole_is_map m w s.part through saw_all links_fit limit s.tree s.map)

  -- with so many slots still to see
  scan : (fuel : ℕ) (m : Inodes) → Seen m → seen_slots limit w ≤ seen_slots limit m + fuel → (t : Tree) × IsMapOf limit w t
  scan zero m s left = by (search_open m w s.part 1 limit)
    where
      by : ((d : ℕ) × (1 ≤ d) × (d < 1 + limit) × IsOpen m w s.part d) ⊎ ((j : ℕ) → 1 ≤ j → j < 1 + limit → IsDone m w s.part j) → (t : Tree) × IsMapOf limit w t
      by (inl r) =
          let more = sum_less (λ k. length (slots_of (m k))) (λ k. length (slots_of (w k))) (few_slots m w s.part) r.0 1 limit r.1 r.2
          (omega (arith, ap (λ o. length (slots_of o)) r.3.here, ap (λ o. length (slots_of o)) r.3.whole, length-append r.3.slots (r.3.next ∷ r.3.rest))) in
          absurd (omega (arith, more, left))
      by (inr done) = found_tree m s (λ k slots is. let at = s.map.within k (ADir slots) is in done k at.0 (omega (arith, at.1)) slots is)
  scan (suc fuel) m s left = by (search_open m w s.part 1 limit) (λ new seen more. scan fuel new seen more)
    where
      by : ((d : ℕ) × (1 ≤ d) × (d < 1 + limit) × IsOpen m w s.part d) ⊎ ((j : ℕ) → 1 ≤ j → j < 1 + limit → IsDone m w s.part j)
          → ((new : Inodes) → Seen new → seen_slots limit w ≤ seen_slots limit new + fuel → (t : Tree) × IsMapOf limit w t) → (t : Tree) × IsMapOf limit w t
      by (inl r) go = let g = go_on m s r.0 r.3.slots r.3.rest r.3.next r.3.here r.3.whole in go g.new g.seen (omega (arith, g.more, left))
      by (inr done) go = found_tree m s (λ k slots is. let at = s.map.within k (ADir slots) is in done k at.0 (omega (arith, at.1)) slots is)

  -- so the rules make a tree
  pub tree_by_rules : (t : Tree) × IsMapOf limit w t
  tree_by_rules =
      let root = rules.within 1 (ADir rules.root.0) rules.root.1 in
      scan (seen_slots limit w) root_alone
      (record { tree = (start (in_layout_one limit)).tree; map = laws.map_start (in_layout_one limit) root.1; part = root_is_part w rules.root.0 rules.root.1 })
      (omega arith)

-- And the map of a tree follows them.
pub rules_of_tree : (laws : TreeLaws) (limit : ℕ) (m : Inodes) (t : Tree) → IsMapOf limit m t → FollowsRules limit m
rules_of_tree laws limit m t is =
    let a = agrees laws limit m t is in
    record {
      root = is.root;
      within = is.within;
      distinct = is.distinct;
      named = λ k i slots s dir at. (laws.slot_root limit m t is k i slots s dir at, laws.slot_used limit m t is k i slots s dir at);
      dirs = λ k slots dir off.
          let p = path_to limit m t a k (ADir slots) dir in
          sym (paths_are_slots laws limit m t a k off) ∙ laws.count_dir limit t p.0 k a.sound p.1 (a.nodes k ∙ ap (option_map thing_of) dir);
      links = λ k links bytes file. sym (paths_are_slots laws limit m t a k (file_apart limit m t is k links bytes file)) ∙ a.links k links bytes file;
      reached = λ k x at. is.shows.reached k x at;
    }
