-- A directory that is visited: its paths come to the plan, and its directories before those to which the walk is still to come.
use Rattle.std.proofs.Common.{◌≡◌, ◌≢◌, ◌⊎◌, inl, inr, ℕ, zero, suc, ◌+◌, ◌-◌, ◌≤◌, Bool, true, false, cond, true≢false, List, [], ◌∷◌, ◌++◌, length, map, take, take_all, drop, slice_get, Option, Some, None, refl, sym, ap, ◌∙◌, subst, arith, append_assoc, append-nil}
use Rattle.std.proofs.lemmas.Grind.{flat_map-append}
use Rattle.std.proofs.Math.Seq.{drop-append_seam}
use Rattle.std.proofs.lemmas.List.{length-append, length-map, length-reverse, map-append, reverse-append, reverse-reverse}
use Rattle.std.proofs.lemmas.List.Elements.{All-append, All-cons, All-head, All-nil, All-push, All-tail, filter-append}
use Rattle.std.proofs.lemmas.Option.{none-some}
use Rattle.std.specs.Prelude.{◌^◌, min, option_and_then, reverse}
use Rattle.std.specs.FinMap.{entries, get}
use Rattle.std.specs.List.{All, filter, flat_map}
use Rattle.base_types.specs.declared.layout.Layout.{Layout}
use Rattle.base_types.specs.Layouts.{directory_blocks}
use Rattle.lang_tree.specs.declared.command.Reply.{Reply}
use Rattle.lang_tree.specs.Figures.{file_blocks}
use Rattle.lang_tree.specs.Names.{names_in}
use Rattle.lang_tree.specs.Step.{stat}
use Rattle.lang_tree.specs.Tree.{Dir, File, IsSound, Thing, Tree}
use Rattle.lang_tree.specs.Walk.{is_dir, thing_at}
use Rattle.lang_making.specs.Making.{paths_in, paths_made}
use Rattle.cmd_upgrade.specs.declared.plan.Entry.{Entry}
use Rattle.cmd_upgrade.specs.declared.plan.Plan.{Plan}
use Rattle.cmd_upgrade.specs.Plans.{Adds, AreMet, HasMet, IsEntry, IsPlanOf, dirs_among, dirs_below, dirs_to_come, made_below}
use Rattle.cmd_upgrade.proofs.PathLoop.{take_one}
use Rattle.cmd_upgrade.proofs.Planned.{KnowsFirsts}
use Rattle.cmd_upgrade.proofs.Whole.{paths_of}

-- Lists.

all_front : {A : Type 0} (P : A → Type 0) (xs ys : List A) → All P (xs ++ ys) → All P xs
all_front P [] ys h = All-nil P
all_front P (x ∷ xs) ys h = All-cons P x xs (All-head P x (xs ++ ys) h) (all_front P xs ys (All-tail P x (xs ++ ys) h))

all_reverse : {A : Type 0} (P : A → Type 0) (xs : List A) → All P xs → All P (reverse xs)
all_reverse P [] h = h
all_reverse P (x ∷ xs) h = subst (All P) (sym (reverse-append (x ∷ []) xs)) (All-push P (reverse xs) x (all_reverse P xs (All-tail P x xs h)) (All-head P x xs h))

all_behind : {A : Type 0} (P : A → Type 0) (n : ℕ) (xs : List A) → All P xs → All P (drop n xs)
all_behind P zero xs h = h
all_behind P (suc n) [] h = h
all_behind P (suc n) (x ∷ xs) h = all_behind P n xs (All-tail P x xs h)

to_come_append : (l : Layout) (t : Tree) (ps qs : List (List (List ℕ))) → dirs_to_come l t (ps ++ qs) ≡ dirs_to_come l t ps + dirs_to_come l t qs
to_come_append l t [] qs = omega arith
to_come_append l t (p ∷ ps) qs = omega (arith, to_come_append l t ps qs)

-- the entries behind the old ones have the other paths
new_paths : (old new : List Entry) (ps : List (List (List ℕ))) → paths_of new ≡ paths_of old ++ ps → paths_of (drop (length old) new) ≡ ps
new_paths [] new ps e = e
new_paths (o ∷ old) [] ps e = absurd cc
new_paths (o ∷ old) (x ∷ new) ps e = let rest : paths_of new ≡ paths_of old ++ ps = cc in new_paths old new ps rest

pub no_root : (dir : List (List ℕ)) (name : List ℕ) → dir ++ name ∷ [] ≢ []
no_root [] name e = absurd cc
no_root (x ∷ dir) name e = absurd cc

pub last_of : {A : Type 0} (P : A → Type 0) (xs : List A) (x : A) → All P (xs ++ x ∷ []) → P x
last_of P [] x h = All-head P x [] h
last_of P (y ∷ xs) x h = last_of P xs x (All-tail P y (xs ++ x ∷ []) h)

-- a directory has a number
dir_number : (t : Tree) (q : List (List ℕ)) → is_dir (thing_at t q) ≡ true → (k : ℕ) × (get t.names q ≡ Some k)
dir_number t q e = by (get t.names q) refl
  where
    by : (o : Option ℕ) → get t.names q ≡ o → (k : ℕ) × (get t.names q ≡ Some k)
    by None none = absurd (true≢false (sym e ∙ ap (λ (o : Option ℕ). is_dir (option_and_then (λ n. get t.nodes n) o)) none))
    by (Some k) at = (k, at)

-- The names of the directory, one by one: the plan behind the first ones, where it was `old` before them.
pub record Visits (t : Tree) (dir : List (List ℕ)) (names : List (List ℕ)) (k : ℕ) (old new : Plan) : Type 0 where
  pub paths : paths_of new.entries.items ≡ paths_of old.entries.items ++ map (λ name. dir ++ name ∷ []) (take k names)
  pub each : All (IsEntry t) old.entries.items → All (IsEntry t) new.entries.items
  pub firsts : KnowsFirsts old old.entries.items → KnowsFirsts new new.entries.items
  pub met : KnowsFirsts old old.entries.items → (visited : ℕ) → HasMet t old visited → HasMet t new visited

pub visits_none : (t : Tree) (dir : List (List ℕ)) (names : List (List ℕ)) (p : Plan) → Visits t dir names 0 p p
visits_none t dir names p = record {
  paths = sym (append-nil (paths_of p.entries.items));
  each = λ h. h;
  firsts = λ h. h;
  met = λ known visited h. h;
}

pub visits_more : (l : Layout) (t : Tree) (dir : List (List ℕ)) (names : List (List ℕ)) (k : ℕ) (name : List ℕ) (found : Reply) (old mid new : Plan) → Visits t dir names k old mid → slice_get names k ≡ Some name
    → stat t (dir ++ name ∷ []) ≡ found → Adds l t (dir ++ name ∷ []) found mid new → Visits t dir names (k + 1) old new
visits_more l t dir names k name found old mid new h at is adds = record {
  paths = adds.paths ∙ ap (λ xs. xs ++ (dir ++ name ∷ []) ∷ []) h.paths ∙ append_assoc (paths_of old.entries.items) (map (λ n. dir ++ n ∷ []) (take k names)) ((dir ++ name ∷ []) ∷ [])
      ∙ ap (λ xs. paths_of old.entries.items ++ xs) (sym (map-append (λ n. dir ++ n ∷ []) (take k names) (name ∷ [])) ∙ ap (map (λ n. dir ++ n ∷ [])) (sym (take_one names k name at) ∙ ap (λ n. take n names) next));
  each = λ all. adds.each (no_root dir name) is (h.each all);
  firsts = λ known. adds.firsts (h.firsts known);
  met = λ known visited m. adds.met (no_root dir name) is (h.firsts known) visited (h.met known visited m);
}
  where
    next : suc k ≡ k + 1
    next = omega arith

-- The laws of the tree that are used here, which hold as the image stands for it.
pub record GoesDown (l : Layout) (t : Tree) : Type 0 where
  pub made : (path : List (List ℕ)) (k : ℕ) → get t.names path ≡ Some k → made_below t path ≡ paths_in t.names path ++ flat_map (made_below t) (paths_in t.names path)
  pub blocks : (path : List (List ℕ)) (k : ℕ) → get t.names path ≡ Some k → dirs_below l t path ≡ directory_blocks l (length (names_in t.names path)) + dirs_to_come l t (paths_in t.names path)
  pub file : (path : List (List ℕ)) (k : ℕ) (bytes : List ℕ) → get t.names path ≡ Some k → get t.nodes k ≡ Some (File bytes) → made_below t path ≡ []
  pub none : (path : List (List ℕ)) (k : ℕ) (bytes : List ℕ) → get t.names path ≡ Some k → get t.nodes k ≡ Some (File bytes) → dirs_below l t path ≡ 0

abbrev pub dirs_of : List Entry → List (List (List ℕ))
dirs_of es = map (λ (e : Entry). e.path) (filter (λ (e : Entry). e.is_dir) es)

module _ (limit : ℕ) (t : Tree) (ok : IsSound limit t) (l : Layout) (down : GoesDown l t) where
  -- below a file there is nothing
  file_at : (e : Entry) → IsEntry t e → e.is_dir ≡ false → (bytes : List ℕ) × (get t.nodes e.number ≡ Some (File bytes))
  file_at e is none = by x.0 x.1
    where
      x : (x : Thing) × (get t.nodes e.number ≡ Some x)
      x = ok.named e.path e.number is.number

      by : (x : Thing) → get t.nodes e.number ≡ Some x → (bytes : List ℕ) × (get t.nodes e.number ≡ Some (File bytes))
      by Dir there = absurd (true≢false (sym (ap is_dir (ap (option_and_then (λ n. get t.nodes n)) is.number ∙ there)) ∙ sym is.dir ∙ none))
      by (File bytes) there = (bytes, there)

  made_dirs : (es : List Entry) → All (IsEntry t) es → flat_map (made_below t) (dirs_of es) ≡ flat_map (made_below t) (paths_of es)
  made_dirs [] all = refl
  made_dirs (e ∷ es) all = by e.is_dir refl (made_dirs es (All-tail (IsEntry t) e es all))
    where
      is : IsEntry t e
      is = All-head (IsEntry t) e es all

      by : (b : Bool) → e.is_dir ≡ b → flat_map (made_below t) (dirs_of es) ≡ flat_map (made_below t) (paths_of es)
          → flat_map (made_below t) (map (λ (x : Entry). x.path) (cond b (e ∷ filter (λ (x : Entry). x.is_dir) es) (filter (λ (x : Entry). x.is_dir) es))) ≡ made_below t e.path ++ flat_map (made_below t) (paths_of es)
      by true dir rest = ap (λ xs. made_below t e.path ++ xs) rest
      by false none rest = let f = file_at e is none in rest ∙ sym (ap (λ xs. xs ++ flat_map (made_below t) (paths_of es)) (down.file e.path e.number f.0 is.number f.1))

  blocks_of_dirs : (es : List Entry) → All (IsEntry t) es → dirs_to_come l t (dirs_of es) ≡ dirs_to_come l t (paths_of es)
  blocks_of_dirs [] all = refl
  blocks_of_dirs (e ∷ es) all = by e.is_dir refl (blocks_of_dirs es (All-tail (IsEntry t) e es all))
    where
      is : IsEntry t e
      is = All-head (IsEntry t) e es all

      by : (b : Bool) → e.is_dir ≡ b → dirs_to_come l t (dirs_of es) ≡ dirs_to_come l t (paths_of es)
          → dirs_to_come l t (map (λ (x : Entry). x.path) (cond b (e ∷ filter (λ (x : Entry). x.is_dir) es) (filter (λ (x : Entry). x.is_dir) es))) ≡ dirs_below l t e.path + dirs_to_come l t (paths_of es)
      by true dir rest = ap (λ n. dirs_below l t e.path + n) rest
      by false none rest = let f = file_at e is none in omega (arith, rest, down.none e.path e.number f.0 is.number f.1)

  are_dirs : (es : List Entry) → All (IsEntry t) es → All (λ q. is_dir (thing_at t q) ≡ true) (dirs_of es)
  are_dirs [] all = All-nil (λ q. is_dir (thing_at t q) ≡ true)
  are_dirs (e ∷ es) all = by e.is_dir refl (are_dirs es (All-tail (IsEntry t) e es all))
    where
      by : (b : Bool) → e.is_dir ≡ b → All (λ q. is_dir (thing_at t q) ≡ true) (dirs_of es)
          → All (λ q. is_dir (thing_at t q) ≡ true) (map (λ (x : Entry). x.path) (cond b (e ∷ filter (λ (x : Entry). x.is_dir) es) (filter (λ (x : Entry). x.is_dir) es)))
      by true dir rest = All-cons (λ q. is_dir (thing_at t q) ≡ true) e.path (dirs_of es) (sym (All-head (IsEntry t) e es all).dir ∙ dir) rest
      by false none rest = rest

  -- The directory was visited.
  module _ (todo : List (List (List ℕ))) (dir : List (List ℕ)) (old mid new : Plan) (h : IsPlanOf l t (todo ++ dir ∷ []) old) (k : ℕ) (at : get t.names dir ≡ Some k)
      (entries_stay : mid.entries ≡ old.entries) (firsts_stay : mid.firsts ≡ old.firsts)
      (counts : mid.blocks ≡ min (old.blocks + directory_blocks l (length (names_in t.names dir))) (2 ^ 64 - 1))
      (visits : Visits t dir (names_in t.names dir) (length (names_in t.names dir)) mid new) where
    abbrev added : List Entry
    added = drop (length old.entries.items) new.entries.items

    known : KnowsFirsts mid mid.entries.items
    known = subst (λ (p : Plan). KnowsFirsts p p.entries.items) (λ i. record { entries = sym entries_stay i; firsts = sym firsts_stay i; blocks = mid.blocks }) h.firsts

    all_new : All (IsEntry t) new.entries.items
    all_new = visits.each (subst (λ v. All (IsEntry t) v.items) (sym entries_stay) h.each)

    paths_now : paths_of new.entries.items ≡ paths_of old.entries.items ++ paths_in t.names dir
    paths_now = visits.paths ∙ ap (λ v. paths_of v.items ++ map (λ name. dir ++ name ∷ []) (take (length (names_in t.names dir)) (names_in t.names dir))) entries_stay
        ∙ ap (λ names. paths_of old.entries.items ++ map (λ name. dir ++ name ∷ []) names) (take_all (length (names_in t.names dir)) (names_in t.names dir) (omega arith))

    paths_added : paths_of added ≡ paths_in t.names dir
    paths_added = new_paths old.entries.items new.entries.items (paths_in t.names dir) paths_now

    all_added : All (IsEntry t) added
    all_added = all_behind (IsEntry t) (length old.entries.items) new.entries.items all_new

    turned : reverse (todo ++ reverse (dirs_of added)) ≡ dirs_of added ++ reverse todo
    turned = reverse-append todo (reverse (dirs_of added)) ∙ ap (λ ps. ps ++ reverse todo) (reverse-reverse (dirs_of added))

    met_mid : HasMet t mid (h.visited + directory_blocks l (length (names_in t.names dir)))
    met_mid = record {
      met = h.met.met;
      are_met = subst (λ v. AreMet t v.items h.met.met) (sym entries_stay) h.met.are_met;
      count = ap (λ f. length f.entries + 1) firsts_stay ∙ h.met.count;
      blocks = omega (arith, counts, h.met.blocks);
    }

    pub visited_now : IsPlanOf l t (todo ++ reverse (dirs_of added)) new
    visited_now = record {
      paths = h.paths ∙ ap (λ ps. paths_of old.entries.items ++ flat_map (made_below t) ps) (reverse-append todo (dir ∷ []))
          ∙ ap (λ xs. paths_of old.entries.items ++ (xs ++ flat_map (made_below t) (reverse todo))) (down.made dir k at)
          ∙ ap (λ xs. paths_of old.entries.items ++ xs) (append_assoc (paths_in t.names dir) (flat_map (made_below t) (paths_in t.names dir)) (flat_map (made_below t) (reverse todo)))
          ∙ sym (append_assoc (paths_of old.entries.items) (paths_in t.names dir) (flat_map (made_below t) (paths_in t.names dir) ++ flat_map (made_below t) (reverse todo)))
          ∙ ap (λ xs. xs ++ (flat_map (made_below t) (paths_in t.names dir) ++ flat_map (made_below t) (reverse todo))) (sym paths_now)
          ∙ ap (λ xs. paths_of new.entries.items ++ xs)
          (ap (λ ps. flat_map (made_below t) ps ++ flat_map (made_below t) (reverse todo)) (sym paths_added)
          ∙ ap (λ xs. xs ++ flat_map (made_below t) (reverse todo)) (sym (made_dirs added all_added))
          ∙ sym (flat_map-append (made_below t) (dirs_of added) (reverse todo)) ∙ ap (flat_map (made_below t)) (sym turned));
      dirs = All-append (λ q. is_dir (thing_at t q) ≡ true) todo (reverse (dirs_of added)) (all_front (λ q. is_dir (thing_at t q) ≡ true) todo (dir ∷ []) h.dirs)
          (all_reverse (λ q. is_dir (thing_at t q) ≡ true) (dirs_of added) (are_dirs added all_added));
      each = all_new;
      firsts = visits.firsts known;
      visited = h.visited + directory_blocks l (length (names_in t.names dir));
      met = visits.met known (h.visited + directory_blocks l (length (names_in t.names dir))) met_mid;
      all = omega (
        arith,
        h.all,
        down.blocks dir k at,
        ap (dirs_to_come l t) turned,
        to_come_append l t (dirs_of added) (reverse todo),
        ap (dirs_to_come l t) (reverse-append todo (dir ∷ [])),
        blocks_of_dirs added all_added,
        ap (dirs_to_come l t) paths_added,
      );
    }

  -- it was, where all its names came to the plan and its directories to the list
  pub visit_done : (todo left : List (List (List ℕ))) (dir : List (List ℕ)) (names : List (List ℕ)) (k : ℕ) (old mid new : Plan) → names ≡ names_in t.names dir → length names ≤ k → k ≤ length names
      → mid ≡ record old { blocks = min (old.blocks + directory_blocks l (length names)) (2 ^ 64 - 1) } → Visits t dir names k mid new
      → left ≡ todo ++ reverse (dirs_of (drop (length mid.entries.items) new.entries.items)) → IsPlanOf l t (todo ++ dir ∷ []) old → IsPlanOf l t left new
  visit_done todo left dir names k old mid new are all upto counts visits is h =
      let entries_stay = ap (λ (p : Plan). p.entries) counts in
      let number = dir_number t dir (last_of (λ q. is_dir (thing_at t q) ≡ true) todo dir h.dirs) in
      let end : k ≡ length (names_in t.names dir) = omega (arith, all, upto, ap (λ (xs : List (List ℕ)). length xs) are) in
      let whole : Visits t dir (names_in t.names dir) (length (names_in t.names dir)) mid new =
      subst (λ (n : ℕ). Visits t dir (names_in t.names dir) n mid new) end (subst (λ (xs : List (List ℕ)). Visits t dir xs k mid new) are visits) in
      subst (λ ps. IsPlanOf l t ps new) (sym (is ∙ ap (λ v. todo ++ reverse (dirs_of (drop (length v.items) new.entries.items))) entries_stay))
      (visited_now todo dir old mid new h number.0 number.1 entries_stay (ap (λ (p : Plan). p.firsts) counts)
      (ap (λ (p : Plan). p.blocks) counts ∙ ap (λ (xs : List (List ℕ)). min (old.blocks + directory_blocks l (length xs)) (2 ^ 64 - 1)) are) whole)

-- As many directories come to the list as to the plan.

-- so many entries are directories, those behind the first ones too
pub dirs_added : (todo left : List (List (List ℕ))) (old new added : List Entry) → new ≡ old ++ added → left ≡ todo ++ reverse (dirs_of (drop (length old) new)) → length left + dirs_among old ≡ length todo + dirs_among new
dirs_added todo left old new added is more = omega (
  arith,
  ap (λ (ps : List (List (List ℕ))). length ps) (more ∙ ap (λ es. todo ++ reverse (dirs_of es)) behind),
  length-append todo (reverse (dirs_of added)),
  length-reverse (dirs_of added),
  length-map (filter (λ (e : Entry). e.is_dir) added) (λ (e : Entry). e.path),
  ap dirs_among is,
  ap (λ (es : List Entry). length es) (filter-append (λ (e : Entry). e.is_dir) old added),
  length-append (filter (λ (e : Entry). e.is_dir) old) (filter (λ (e : Entry). e.is_dir) added),
)
  where
    behind : drop (length old) new ≡ added
    behind = ap (drop (length old)) is ∙ drop-append_seam old added

-- There are no more entries than paths that are made, nor with the names of the next directory.

pub few_entries : (l : Layout) (t : Tree) (todo : List (List (List ℕ))) (p : Plan) → IsPlanOf l t todo p → length p.entries.items ≤ length (paths_made t.names)
few_entries l t todo p h =
    omega (arith, ap (λ (ps : List (List (List ℕ))). length ps) h.paths, length-append (map (λ (e : Entry). e.path) p.entries.items) (flat_map (made_below t) (reverse todo)), length-map p.entries.items (λ (e : Entry). e.path))

pub next_fits : (l : Layout) (t : Tree) (todo : List (List (List ℕ))) (dir : List (List ℕ)) (p : Plan)
    → ((k : ℕ) → get t.names dir ≡ Some k → made_below t dir ≡ paths_in t.names dir ++ flat_map (made_below t) (paths_in t.names dir))
    → IsPlanOf l t (todo ++ dir ∷ []) p → length p.entries.items + length (names_in t.names dir) ≤ length (paths_made t.names)
next_fits l t todo dir p down h =
    let number = dir_number t dir (last_of (λ q. is_dir (thing_at t q) ≡ true) todo dir h.dirs) in
    omega (
      arith,
      ap (λ (ps : List (List (List ℕ))). length ps) h.paths,
      length-append (map (λ (e : Entry). e.path) p.entries.items) (flat_map (made_below t) (reverse (todo ++ dir ∷ []))),
      length-map p.entries.items (λ (e : Entry). e.path),
      ap (λ ps. length (flat_map (made_below t) ps)) (reverse-append todo (dir ∷ [])),
      length-append (made_below t dir) (flat_map (made_below t) (reverse todo)),
      ap (λ (ps : List (List (List ℕ))). length ps) (down number.0 number.1),
      length-append (paths_in t.names dir) (flat_map (made_below t) (paths_in t.names dir)),
      length-map (names_in t.names dir) (λ (name : List ℕ). dir ++ name ∷ []),
    )
