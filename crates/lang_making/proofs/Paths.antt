-- The first part of the commands makes all paths: each directory is there then, and each file without its bytes.
use Rattle.std.proofs.Common.{◌≡◌, ℕ, suc, ◌+◌, ◌≤◌, ◌<◌, Bool, true, false, List, [], ◌∷◌, ◌++◌, length, map, Option, Some, None, is_none, option_and_then, option_map, if◌then◌else◌, find as first, refl, sym, ap, ◌∙◌, subst, ◌⊎◌, inl, inr, arith, append_assoc, append-nil, eq-eqb, eqb-true}
use Rattle.std.proofs.lemmas.Bool.{cases_eq}
use Rattle.std.proofs.lemmas.Option.{same_Some, none-some}
use Rattle.std.specs.Cmp.{nat_cmp_total}
use Rattle.std.specs.List.{range_with_len}
use Rattle.std.specs.FinMap.{nat_cmp-IsAntisymmetric, get, insert, empty, len}
use Rattle.lang_tree.specs.declared.command.Cmd.{Cmd}
use Rattle.lang_tree.specs.declared.command.Cmd.TheVariants.{Mkdir, Create, Link}
use Rattle.lang_tree.specs.declared.command.Reply.TheVariants.{Ok as Done}
use Rattle.lang_tree.specs.Tree.{Tree, Bounds, Thing, Dir, File, IsSound}
use Rattle.lang_tree.specs.Paths.{parent}
use Rattle.lang_tree.specs.Names.{path_count}
use Rattle.lang_tree.specs.Walk.{is_dir, is_same_node, are_same}
use Rattle.lang_tree.specs.Conditions.{least_unused}
use Rattle.lang_tree.specs.Step.{Session, step}
use Rattle.lang_making.specs.Making.{paths_made, first_alike, link_from, file_command, path_command, HasFewPaths, HasShortNames}
use Rattle.lang_making.proofs.Lists.{In, Apart, Finds, finds, in_left, in_middle, in_push}
use Rattle.lang_making.proofs.Maps.{path_total, path_same, ties, differs, put_at, put_or, put_beside}
use Rattle.lang_making.proofs.Order.{Fits, Ordered, parent_is}
use Rattle.lang_making.proofs.Numbers.{number_of, met_as, number_here, number_there, met_here, met_there, met_past, met_some, met_number, number_met, few_met, first_from}
use Rattle.lang_making.proofs.Counting.{CountsFound, CountsTaken, fewer_than}
use Rattle.lang_making.proofs.Walks.{thing_there}
use Rattle.lang_making.proofs.Steps.{Does, StepsKeepSound, with_tree, with_path, sound_after, mkdir_done, create_done, link_done}

-- a tree without snapshots takes the least number that no node has
abbrev pub TakesLeast : Type 0
TakesLeast = (limit : ℕ) (t : Tree) → t.snapshots ≡ empty → least_unused limit t ≡ first (λ n. is_none (get t.nodes n)) (range_with_len 1 limit)

-- What the laws of trees say of commands, counts of paths and numbers.
pub record Laws : Type 0 where
  pub keeps : StepsKeepSound
  pub found : CountsFound
  pub taken : CountsTaken
  pub least : TakesLeast

-- Two paths that lead to one node.

pub same_node : (t : Tree) (p q : List (List ℕ)) (n : ℕ) → get t.names p ≡ Some n → get t.names q ≡ Some n → is_same_node t p q ≡ true
same_node t p q n at there = ap (λ o. are_same o (get t.names q)) at ∙ ap (λ o. are_same (Some n) o) there ∙ eq-eqb n n refl

pub node_same : (t : Tree) (p q : List (List ℕ)) (n : ℕ) → get t.names p ≡ Some n → is_same_node t p q ≡ true → get t.names q ≡ Some n
node_same t p q n at same = by (get t.names q) refl (sym (ap (λ o. are_same o (get t.names q)) at) ∙ same)
  where
    by : (o : Option ℕ) → get t.names q ≡ o → are_same (Some n) o ≡ true → get t.names q ≡ Some n
    by None is e = absurd cc
    by (Some m) is e = is ∙ ap Some (sym (eqb-true n m e))

pub true_false : (b : Bool) → b ≡ true → b ≡ false → ⊥
true_false b p q = cc

-- a directory as it is, and a file without its bytes
abbrev pub emptied : Option Thing → Option Thing
emptied None = None
emptied (Some Dir) = Some Dir
emptied (Some (File bytes)) = Some (File [])

emptied_some : (x : Thing) → is_none (emptied (Some x)) ≡ false
emptied_some Dir = refl
emptied_some (File bytes) = refl

-- What a session is in which these paths of a tree are made, and these nodes were met with them.
pub record Made (t : Tree) (done : List (List (List ℕ))) (ms : List ℕ) (s : Session) : Type 0 where
  pub sound : IsSound s.limit.nodes s.tree
  pub bare : s.tree.snapshots ≡ empty
  pub names : (p : List (List ℕ)) → In done p → get s.tree.names p ≡ option_map (number_of ms) (get t.names p)
  pub only : (p : List (List ℕ)) (k : ℕ) → get s.tree.names p ≡ Some k → In done p
  pub nodes : (k : ℕ) → get s.tree.nodes k ≡ option_and_then (λ n. emptied (get t.nodes n)) (met_as ms k)
  pub once : Apart ms
  pub met : (n : ℕ) → In ms n → (p : List (List ℕ)) × In done p × (get t.names p ≡ Some n)
  pub there : (p : List (List ℕ)) (n : ℕ) → In done p → get t.names p ≡ Some n → In ms n

-- What a command leaves that is done and makes one path more.
pub record Grown (t : Tree) (done : List (List (List ℕ))) (s : Session) (cmd : Cmd) : Type 0 where
  pub next : Session
  pub ms : List ℕ
  pub answer : step s cmd ≡ (next, Done)
  pub limit : next.limit ≡ s.limit
  pub made : Made t done ms next

module _ (laws : Laws) (most : ℕ) (t : Tree) (ok : IsSound most t) where
  module _ (done : List (List (List ℕ))) (ms : List ℕ) (s : Session) (made : Made t done ms s) where
    has_node : (n : ℕ) → In ms n → (x : Thing) × (get t.nodes n ≡ Some x)
    has_node n e = let r = made.met n e in ok.named r.0 n r.2

    -- a node that was met is there under its number
    node_at : (n : ℕ) → In ms n → get s.tree.nodes (number_of ms n) ≡ emptied (get t.nodes n)
    node_at n e = made.nodes (number_of ms n) ∙ ap (option_and_then (λ n. emptied (get t.nodes n))) (met_number ms n made.once e)

    name_at : (p : List (List ℕ)) (n : ℕ) → In done p → get t.names p ≡ Some n → get s.tree.names p ≡ Some (number_of ms n)
    name_at p n e at = made.names p e ∙ ap (option_map (number_of ms)) at

    same_number : (m n : ℕ) → In ms m → In ms n → number_of ms m ≡ number_of ms n → m ≡ n
    same_number m n a b e = same_Some m n (sym (met_number ms m made.once a) ∙ ap (met_as ms) e ∙ met_number ms n made.once b)

    -- what has the number of a node has it in the tree that is made
    name_was : (p : List (List ℕ)) (n : ℕ) → In ms n → get s.tree.names p ≡ Some (number_of ms n) → get t.names p ≡ Some n
    name_was p n e at = by (get t.names p) refl
      where
        here : In done p
        here = made.only p (number_of ms n) at

        by : (o : Option ℕ) → get t.names p ≡ o → get t.names p ≡ Some n
        by None is = absurd (none-some (number_of ms n) (sym (made.names p here ∙ ap (option_map (number_of ms)) is) ∙ at))
        by (Some m) is =
            let numbers : number_of ms m ≡ number_of ms n = same_Some (number_of ms m) (number_of ms n) (sym (name_at p m here is) ∙ at) in
            is ∙ ap Some (same_number m n (made.there p m here is) e numbers)

    module _ (p : List (List ℕ)) (fits : Fits t.names done p) where
      -- the directory of the path in both trees
      dir_there : (k : ℕ) × (get t.names fits.up ≡ Some k) × (get t.nodes k ≡ Some Dir)
      dir_there = ok.parents fits.up fits.name fits.number (ap (get t.names) (sym fits.is) ∙ fits.at)

      abbrev dir : ℕ
      dir = number_of ms dir_there.0

      dir_at : get s.tree.names (parent p) ≡ Some dir
      dir_at = ap (get s.tree.names) (ap parent fits.is ∙ parent_is fits.up fits.name) ∙ name_at fits.up dir_there.0 fits.dir dir_there.1

      dir_is : get s.tree.nodes dir ≡ Some Dir
      dir_is = node_at dir_there.0 (made.there fits.up dir_there.0 fits.dir dir_there.1) ∙ ap emptied dir_there.2

      free : get s.tree.names p ≡ None
      free = by (get s.tree.names p) refl
        where
          by : (o : Option ℕ) → get s.tree.names p ≡ o → get s.tree.names p ≡ None
          by None is = is
          by (Some k) is = absurd (fits.fresh (made.only p k is))

      only_more : (m : ℕ) (q : List (List ℕ)) (k : ℕ) → get (insert s.tree.names p m) q ≡ Some k → In (done ++ p ∷ []) q
      only_more m q k e = by (put_or path_total path_same s.tree.names p m q)
        where
          by : (q ≡ p) ⊎ (get (insert s.tree.names p m) q ≡ get s.tree.names q) → In (done ++ p ∷ []) q
          by (inl is) = subst (In (done ++ p ∷ [])) (sym is) (in_middle done [] p)
          by (inr old) = in_left done (p ∷ []) q (made.only q k (sym old ∙ e))

      not_it : (q : List (List ℕ)) → In done q → q ≡ p → ⊥
      not_it q e same = fits.fresh (subst (In done) same e)

      -- a node that wasn't met
      module _ (room : len t.nodes ≤ s.limit.nodes) (new : In ms fits.number → ⊥) (thing blank : Thing) (is : get t.nodes fits.number ≡ Some thing) (so : emptied (Some thing) ≡ Some blank) where
        low : length ms < s.limit.nodes
        low = let fit = few_met (fits.number ∷ ms) t.nodes (new, made.once) all in omega (arith, fit, room)
          where
            all : (m : ℕ) → In (fits.number ∷ ms) m → (x : Thing) × (get t.nodes m ≡ Some x)
            all m (inl e) = (thing, ap (get t.nodes) e ∙ is)
            all m (inr e) = has_node m e

        none_below : (j : ℕ) → 1 ≤ j → j < 1 + length ms → is_none (get s.tree.nodes j) ≡ false
        none_below j from upto =
            let m = met_some ms j from (omega (arith, upto)) in
            let x = has_node m.0 (number_met ms j m.0 made.once m.1).1 in
            ap is_none (made.nodes j ∙ ap (option_and_then (λ n. emptied (get t.nodes n))) m.1 ∙ ap emptied x.1) ∙ emptied_some x.0

        unused : least_unused s.limit.nodes s.tree ≡ Some (suc (length ms))
        unused =
            let next : 1 + length ms ≡ suc (length ms) = omega arith in
            let pass : is_none (get s.tree.nodes (1 + length ms)) ≡ true =
            ap is_none (made.nodes (1 + length ms) ∙ ap (option_and_then (λ n. emptied (get t.nodes n))) (met_past ms (1 + length ms) (omega arith))) in
            laws.least s.limit.nodes s.tree made.bare
            ∙ first_from (λ n. is_none (get s.tree.nodes n)) 1 (length ms) s.limit.nodes low none_below pass
            ∙ ap Some next

        abbrev after : Session
        after = with_tree s (with_path s.tree p (suc (length ms)) blank)

        new_names : (q : List (List ℕ)) → In done q ⊎ (q ≡ p) → get (insert s.tree.names p (suc (length ms))) q ≡ option_map (number_of (fits.number ∷ ms)) (get t.names q)
        new_names q (inr same) =
            put_at path_total path_same s.tree.names p (suc (length ms)) q same
            ∙ sym (ap (option_map (number_of (fits.number ∷ ms))) (ap (get t.names) same ∙ fits.at) ∙ ap Some (number_here fits.number fits.number ms refl))
        new_names q (inl e) = put_beside path_total path_same s.tree.names p (suc (length ms)) q (not_it q e) ∙ made.names q e ∙ by (get t.names q) refl
          where
            by : (o : Option ℕ) → get t.names q ≡ o → option_map (number_of ms) o ≡ option_map (number_of (fits.number ∷ ms)) o
            by None there = refl
            by (Some m) there = ap Some (sym (number_there fits.number m ms (λ same. new (subst (In ms) same (made.there q m e there)))))

        new_nodes : (k : ℕ) → (k ≡ suc (length ms)) ⊎ (k ≡ suc (length ms) → ⊥)
            → get (insert s.tree.nodes (suc (length ms)) blank) k ≡ option_and_then (λ n. emptied (get t.nodes n)) (met_as (fits.number ∷ ms) k)
        new_nodes k (inl same) =
            put_at nat_cmp_total nat_cmp-IsAntisymmetric s.tree.nodes (suc (length ms)) blank k same
            ∙ sym (ap (option_and_then (λ n. emptied (get t.nodes n))) (met_here fits.number k ms same) ∙ ap emptied is ∙ so)
        new_nodes k (inr apart) =
            put_beside nat_cmp_total nat_cmp-IsAntisymmetric s.tree.nodes (suc (length ms)) blank k apart ∙ made.nodes k
            ∙ ap (option_and_then (λ n. emptied (get t.nodes n))) (sym (met_there fits.number k ms apart))

        new_met : (m : ℕ) → In (fits.number ∷ ms) m → (q : List (List ℕ)) × In (done ++ p ∷ []) q × (get t.names q ≡ Some m)
        new_met m (inl same) = (p, in_middle done [] p, fits.at ∙ ap Some (sym same))
        new_met m (inr e) = let r = made.met m e in (r.0, in_left done (p ∷ []) r.0 r.1, r.2)

        new_there : (q : List (List ℕ)) (m : ℕ) → In done q ⊎ (q ≡ p) → get t.names q ≡ Some m → In (fits.number ∷ ms) m
        new_there q m (inl e) at = inr (made.there q m e at)
        new_there q m (inr same) at = inl (same_Some m fits.number (sym at ∙ ap (get t.names) same ∙ fits.at))

        new_made : (cmd : Cmd) → step s cmd ≡ (after, Done) → Made t (done ++ p ∷ []) (fits.number ∷ ms) after
        new_made cmd answer = record {
          sound = sound_after laws.keeps s cmd (with_path s.tree p (suc (length ms)) blank) made.sound answer;
          bare = made.bare;
          names = λ q e. new_names q (in_push done p q e);
          only = only_more (suc (length ms));
          nodes = λ k. new_nodes k (cases_eq k (suc (length ms)));
          once = (new, made.once);
          met = new_met;
          there = λ q m e at. new_there q m (in_push done p q e) at;
        }

      -- a path more of a node that was met
      module _ (e : In ms fits.number) where
        abbrev joined : Session
        joined = with_tree s (record s.tree { names = insert s.tree.names p (number_of ms fits.number) })

        old_names : (q : List (List ℕ)) → In done q ⊎ (q ≡ p) → get (insert s.tree.names p (number_of ms fits.number)) q ≡ option_map (number_of ms) (get t.names q)
        old_names q (inr same) =
            put_at path_total path_same s.tree.names p (number_of ms fits.number) q same ∙ sym (ap (option_map (number_of ms)) (ap (get t.names) same ∙ fits.at))
        old_names q (inl there) = put_beside path_total path_same s.tree.names p (number_of ms fits.number) q (not_it q there) ∙ made.names q there

        old_there : (q : List (List ℕ)) (m : ℕ) → In done q ⊎ (q ≡ p) → get t.names q ≡ Some m → In ms m
        old_there q m (inl there) at = made.there q m there at
        old_there q m (inr same) at = subst (In ms) (same_Some fits.number m (sym fits.at ∙ ap (get t.names) (sym same) ∙ at)) e

        old_made : (cmd : Cmd) → step s cmd ≡ (joined, Done) → Made t (done ++ p ∷ []) ms joined
        old_made cmd answer = record {
          sound = sound_after laws.keeps s cmd (record s.tree { names = insert s.tree.names p (number_of ms fits.number) }) made.sound answer;
          bare = made.bare;
          names = λ q e. old_names q (in_push done p q e);
          only = only_more (number_of ms fits.number);
          nodes = made.nodes;
          once = made.once;
          met = λ m there. let r = made.met m there in (r.0, in_left done (p ∷ []) r.0 r.1, r.2);
          there = λ q m there at. old_there q m (in_push done p q there) at;
        }

        few_there : HasFewPaths t.names → path_count s.tree.names (number_of ms fits.number) < 65535
        few_there few =
            let less = fewer_than laws.found laws.taken s.tree.names t.names (number_of ms fits.number) fits.number p free fits.at (λ q at. name_was q fits.number e at) in
            omega (arith, less, few fits.number)

  -- One command.
  module _ (front left : List (List (List ℕ))) (p : List (List ℕ)) (split : paths_made t.names ≡ front ++ p ∷ left) (ms : List ℕ) (s : Session) (made : Made t ([] ∷ front) ms s)
      (fits : Fits t.names ([] ∷ front) p) (room : len t.nodes ≤ s.limit.nodes) (few : HasFewPaths t.names) (short : HasShortNames s.limit.layout t.names) where
    abbrev paths : List (List (List ℕ))
    paths = paths_made t.names

    -- a directory was not met before
    dir_new : get t.nodes fits.number ≡ Some Dir → In ms fits.number → ⊥
    dir_new is e = let r = made.met fits.number e in fits.fresh (subst (In ([] ∷ front)) (ok.one_path fits.number r.0 p is r.2 fits.at) r.1)

    make_dir : get t.nodes fits.number ≡ Some Dir → Grown t ([] ∷ front ++ p ∷ []) s (path_command t paths p)
    make_dir is =
        let asked : path_command t paths p ≡ Mkdir p = ap (λ o. if is_dir o then Mkdir p else file_command (first_alike t paths p) p) (thing_there t p fits.number Dir fits.at is) in
        let new = dir_new is in
        let answer = mkdir_done s made.sound p (dir ([] ∷ front) ms s made p fits) (suc (length ms)) (dir_at ([] ∷ front) ms s made p fits) (dir_is ([] ∷ front) ms s made p fits)
        (free ([] ∷ front) ms s made p fits) (unused ([] ∷ front) ms s made p fits room new Dir Dir is refl) (short p fits.number fits.at) in
        record {
          next = after ([] ∷ front) ms s made p fits room new Dir Dir is refl;
          ms = fits.number ∷ ms;
          answer = subst (λ c. step s c ≡ (after ([] ∷ front) ms s made p fits room new Dir Dir is refl, Done)) (sym asked) answer;
          limit = refl;
          made = new_made ([] ∷ front) ms s made p fits room new Dir Dir is refl (Mkdir p) answer;
        }

    module _ (bytes : List ℕ) (is : get t.nodes fits.number ≡ Some (File bytes)) where
      file_asked : (o : Option (List (List ℕ))) → first_alike t paths p ≡ o → path_command t paths p ≡ file_command o p
      file_asked o found =
          ap (λ x. if is_dir x then Mkdir p else file_command (first_alike t paths p) p) (thing_there t p fits.number (File bytes) fits.at is)
          ∙ ap (λ o. file_command o p) found

      -- where no path before it leads to the file
      file_new : ((q : List (List ℕ)) → In front q → is_same_node t p q ≡ false) → In ms fits.number → ⊥
      file_new none e = let r = made.met fits.number e in by r.0 r.1 r.2
        where
          by : (q : List (List ℕ)) → In ([] ∷ front) q → get t.names q ≡ Some fits.number → ⊥
          by q (inl root) at =
              let one : 1 ≡ fits.number = same_Some 1 fits.number (sym ok.root ∙ ap (get t.names) (sym root) ∙ at) in
              let dir : Some Dir ≡ Some (File bytes) = sym ok.root_dir ∙ ap (get t.nodes) one ∙ is in
              cc
          by q (inr there) at = true_false (is_same_node t p q) (same_node t p q fits.number fits.at at) (none q there)

      make_file : ((q : List (List ℕ)) → In front q → is_same_node t p q ≡ false) → first_alike t paths p ≡ Some p → Grown t ([] ∷ front ++ p ∷ []) s (path_command t paths p)
      make_file none found =
          let asked : path_command t paths p ≡ Create p =
          file_asked (Some p) found ∙ ap (λ b. if b then Create p else link_from (Some p) p) (ties path_total path_same p p refl) in
          let new = file_new none in
          let answer = create_done s made.sound p (dir ([] ∷ front) ms s made p fits) (suc (length ms)) (dir_at ([] ∷ front) ms s made p fits) (dir_is ([] ∷ front) ms s made p fits)
          (free ([] ∷ front) ms s made p fits) (unused ([] ∷ front) ms s made p fits room new (File bytes) (File []) is refl) (short p fits.number fits.at) in
          record {
            next = after ([] ∷ front) ms s made p fits room new (File bytes) (File []) is refl;
            ms = fits.number ∷ ms;
            answer = subst (λ c. step s c ≡ (after ([] ∷ front) ms s made p fits room new (File bytes) (File []) is refl, Done)) (sym asked) answer;
            limit = refl;
            made = new_made ([] ∷ front) ms s made p fits room new (File bytes) (File []) is refl (Create p) answer;
          }

      make_link : (q : List (List ℕ)) → In front q → is_same_node t p q ≡ true → first_alike t paths p ≡ Some q → Grown t ([] ∷ front ++ p ∷ []) s (path_command t paths p)
      make_link q there same found =
          let other : q ≡ p → ⊥ = λ e. fits.fresh (subst (In ([] ∷ front)) e (inr there)) in
          let asked : path_command t paths p ≡ Link q p =
          file_asked (Some q) found ∙ ap (λ b. if b then Create p else link_from (Some q) p) (differs path_total path_same q p other) in
          let at = node_same t p q fits.number fits.at same in
          let e = made.there q fits.number (inr there) at in
          let answer = link_done s made.sound q p (number_of ms fits.number) (dir ([] ∷ front) ms s made p fits) [] (name_at ([] ∷ front) ms s made q fits.number (inr there) at)
          (node_at ([] ∷ front) ms s made fits.number e ∙ ap emptied is) (dir_at ([] ∷ front) ms s made p fits) (dir_is ([] ∷ front) ms s made p fits)
          (free ([] ∷ front) ms s made p fits) (few_there ([] ∷ front) ms s made p fits e few) (short p fits.number fits.at) in
          record {
            next = joined ([] ∷ front) ms s made p fits e;
            ms = ms;
            answer = subst (λ c. step s c ≡ (joined ([] ∷ front) ms s made p fits e, Done)) (sym asked) answer;
            limit = refl;
            made = old_made ([] ∷ front) ms s made p fits e (Link q p) answer;
          }

    make_one : Grown t ([] ∷ front ++ p ∷ []) s (path_command t paths p)
    make_one = let x = ok.named p fits.number fits.at in by x.0 x.1
      where
        by : (x : Thing) → get t.nodes fits.number ≡ Some x → Grown t ([] ∷ front ++ p ∷ []) s (path_command t paths p)
        by Dir is = make_dir is
        by (File bytes) is = which (finds (is_same_node t p) front left p (same_node t p p fits.number fits.at fits.at))
          where
            which : Finds (is_same_node t p) front p left → Grown t ([] ∷ front ++ p ∷ []) s (path_command t paths p)
            which (inl r) = make_link bytes is r.0 r.1 r.2 (ap (first (is_same_node t p)) split ∙ r.3)
            which (inr r) = make_file bytes is r.0 (ap (first (is_same_node t p)) split ∙ r.1)

  -- all of them
  pub make_all : (front left : List (List (List ℕ))) (ms : List ℕ) (s : Session) → paths_made t.names ≡ front ++ left → Made t ([] ∷ front) ms s → Ordered t.names ([] ∷ front) left
      → len t.nodes ≤ s.limit.nodes → HasFewPaths t.names → HasShortNames s.limit.layout t.names
      → (e : Session) × (met : List ℕ) × Does s (map (path_command t (paths_made t.names)) left) e × Made t ([] ∷ paths_made t.names) met e
  make_all front [] ms s split made order room few short = (s, ms, refl, subst (λ l. Made t ([] ∷ l) ms s) (sym (split ∙ append-nil front)) made)
  make_all front (p ∷ left) ms s split made order room few short =
      let one = make_one front left p split ms s made order.0 room few short in
      let rest = make_all (front ++ p ∷ []) left one.ms one.next (split ∙ sym (append_assoc front (p ∷ []) left)) one.made order.1 (subst (λ (n : Bounds). len t.nodes ≤ n.nodes) (sym one.limit) room) few
      (subst (λ (n : Bounds). HasShortNames n.layout t.names) (sym one.limit) short) in
      (rest.0, rest.1, (one.next, one.answer, rest.2), rest.3)
