-- What the commit blocks of a log tell of the ledger's records, event by event.
use Rattle.std.proofs.Common.{◌≡◌, ◌&&◌, ◌==◌, ⊎_elim, ℕ, ◌+◌, ◌-◌, ◌<◌, ◌≤◌, nat_le, nat_lt, Bool, true, false, if◌then◌else◌, List, [], ◌∷◌, ◌++◌, length, map, drop, Option, None, Some, refl, sym, ◌∙◌, ap, ap₂, arith, append-nil, append_assoc, length-append}
use Rattle.std.proofs.lemmas.Bool.{cases_lt, le-leb, lt-leb}
use Rattle.std.proofs.lemmas.List.{drop-append-le, drop_all, map-append}
use Rattle.std.proofs.lemmas.List.Elements.{filter-append}
use Rattle.std.proofs.Math.Seq.{drop-append_seam, drop-drop}
use Rattle.std.specs.List.{filter}
use Rattle.base_types.specs.Seal.{Blocks}
use Rattle.disk_contract.specs.declared.event.Event.{Event}
use Rattle.disk_contract.specs.declared.event.Event.TheVariants.{Wrote, Lost, Noticed}
use Rattle.layout_geometry.specs.Geometry.{Geometry, bitmap_start}
use Rattle.layout_journal.specs.declared.header.Header.{Header}
use Rattle.layout_journal.specs.declared.record.Commit.{Commit}
use Rattle.layout_journal.specs.Layout.{commit_of}
use Rattle.layout_journal.specs.Run.{Record, all_places, places_told, places_from, commit_says}
use Rattle.crash_argument.specs.Ledger.{Ledger, WrittenRecord, all_say, next_number}
use Rattle.crash_argument.specs.Points.{MountedSession, HasPoints, commits, commits_told, has_epoch, is_commit, is_from, records_told, where_told}
use Rattle.crash_argument.specs.Steps.{with_record, with_durable_header}
use Rattle.crash_argument.proofs.log.Lists.{say_append}
use Rattle.crash_argument.proofs.steps.PointSteps.{points_in-append}

-- a write tells as many records as it counts for
one_counted : (epoch : ℕ) (low high : Bool) (o : Option Commit) → length (where_told (low && high && has_epoch epoch o) o) ≡ (if low && high && has_epoch epoch o then 1 else 0)
one_counted epoch true true (Some c) = by (c.epoch == epoch)
  where
    by : (is : Bool) → length (if is then c ∷ [] else []) ≡ (if is then 1 else 0)
    by true = refl
    by false = refl
one_counted epoch true true None = refl
one_counted epoch true false (Some c) = refl
one_counted epoch true false None = refl
one_counted epoch false high (Some c) = refl
one_counted epoch false high None = refl

-- the commit blocks of two logs, one behind the other
pub commits_told-append : (g : Geometry) (epoch : ℕ) (xs ys : List Event) → commits_told g epoch (xs ++ ys) ≡ commits_told g epoch xs ++ commits_told g epoch ys
commits_told-append g epoch [] ys = refl
commits_told-append g epoch (Wrote t b x ∷ xs) ys = ap (λ cs. where_told (is_commit g epoch b x) (commit_of g x) ++ cs) (commits_told-append g epoch xs ys) ∙ sym (append_assoc (where_told (is_commit g epoch b x) (commit_of g x)) (commits_told g epoch xs) (commits_told g epoch ys))
commits_told-append g epoch (Lost b x ∷ xs) ys = ap (λ cs. where_told (is_commit g epoch b x) (commit_of g x) ++ cs) (commits_told-append g epoch xs ys) ∙ sym (append_assoc (where_told (is_commit g epoch b x) (commit_of g x)) (commits_told g epoch xs) (commits_told g epoch ys))
commits_told-append g epoch (Noticed t ∷ xs) ys = commits_told-append g epoch xs ys

-- there is one for each commit block that is counted
pub count_told : (g : Geometry) (epoch : ℕ) (es : List Event) → length (commits_told g epoch es) ≡ commits g epoch es
count_told g epoch [] = refl
count_told g epoch (Wrote t b x ∷ es) = omega (arith, length-append (where_told (is_commit g epoch b x) (commit_of g x)) (commits_told g epoch es), one_counted epoch (nat_le 2 b) (nat_lt b (bitmap_start g)) (commit_of g x), count_told g epoch es)
count_told g epoch (Lost b x ∷ es) = omega (arith, length-append (where_told (is_commit g epoch b x) (commit_of g x)) (commits_told g epoch es), one_counted epoch (nat_le 2 b) (nat_lt b (bitmap_start g)) (commit_of g x), count_told g epoch es)
count_told g epoch (Noticed t ∷ es) = count_told g epoch es

-- those of a session whose log goes on
pub records_told-append : (s : MountedSession) (xs ys : List Event) → s.mounted ≤ length xs → records_told s (xs ++ ys) ≡ records_told s xs ++ commits_told s.geom s.epoch ys
records_told-append s xs ys late = ap (commits_told s.geom s.epoch) (drop-append-le s.mounted xs ys late) ∙ commits_told-append s.geom s.epoch (drop s.mounted xs) ys

-- a write that isn't counted as a commit block tells none
uncounted : (b : Bool) → (if b then 1 else 0) + 0 ≡ 0 → b ≡ false
uncounted true e = cc
uncounted false e = refl

untold : (g : Geometry) (epoch block : ℕ) (x : List ℕ) → is_commit g epoch block x ≡ false → where_told (is_commit g epoch block x) (commit_of g x) ++ [] ≡ []
untold g epoch block x e = append-nil (where_told (is_commit g epoch block x) (commit_of g x)) ∙ by (is_commit g epoch block x) (commit_of g x) e
  where
    by : (is : Bool) (o : Option Commit) → is ≡ false → where_told is o ≡ []
    by true o e = cc
    by false None e = refl
    by false (Some c) e = refl

pub none_told : (g : Geometry) (epoch : ℕ) (e : Event) → commits g epoch (e ∷ []) ≡ 0 → commits_told g epoch (e ∷ []) ≡ []
none_told g epoch (Wrote t b x) none = untold g epoch b x (uncounted (is_commit g epoch b x) none)
none_told g epoch (Lost b x) none = untold g epoch b x (uncounted (is_commit g epoch b x) none)
none_told g epoch (Noticed t) none = refl

-- one that is tells what it says
pub one_told : (g : Geometry) (epoch block : ℕ) (x : List ℕ) (c : Commit) → is_commit g epoch block x ≡ true → commit_of g x ≡ Some c → where_told (is_commit g epoch block x) (commit_of g x) ++ [] ≡ c ∷ []
one_told g epoch block x c is says = ap (λ b. where_told b (commit_of g x) ++ []) is ∙ ap (λ o. where_told true o ++ []) says

-- What is told stays over an event that is no commit block.
abbrev pub Tells : MountedSession → List Event → Ledger → Type 0
Tells s log l = (n : ℕ) → l.header.start ≤ n → filter (is_from n) (records_told s log) ≡ map (commit_says s.epoch) (all_say (drop (n - l.header.start) l.records))

pub tells_still : (s : MountedSession) (log : List Event) (e : Event) (l : Ledger) → s.mounted ≤ length log → commits s.geom s.epoch (e ∷ []) ≡ 0 → Tells s log l → Tells s (log ++ e ∷ []) l
tells_still s log e l late none told n from =
    ap (filter (is_from n)) (records_told-append s log (e ∷ []) late ∙ ap (λ cs. records_told s log ++ cs) (none_told s.geom s.epoch e none) ∙ append-nil (records_told s log)) ∙ told n from

-- a header that turns leaves records behind
pub tells_from : (s : MountedSession) (log : List Event) (l : Ledger) (h : Header) → l.header.start ≤ h.start → Tells s log l → Tells s log (with_durable_header l h)
tells_from s log l h le told n from =
    told n (omega (arith, le, from))
    ∙ ap (λ ws. map (commit_says s.epoch) (all_say ws)) (ap (λ k. drop k l.records) (omega arith) ∙ sym (drop-drop (n - h.start) (h.start - l.header.start) l.records))

-- the one record of a list, from a number on
one_from : (n : ℕ) (c : Commit) → n ≤ c.number → filter (is_from n) (c ∷ []) ≡ c ∷ []
one_from n c le = ap (λ b. if b then c ∷ [] else []) (le-leb n c.number le)

none_from : (n : ℕ) (c : Commit) → c.number < n → filter (is_from n) (c ∷ []) ≡ []
none_from n c lt = ap (λ b. if b then c ∷ [] else []) (lt-leb n c.number lt)

-- and one record more is told by its commit block
pub tells_more : (s : MountedSession) (log : List Event) (e : Event) (l : Ledger) (w : WrittenRecord) (m : Blocks) → s.mounted ≤ length log → commits_told s.geom s.epoch (e ∷ []) ≡ commit_says s.epoch w.says ∷ [] → w.says.number ≡ next_number l
    → Tells s log l → Tells s (log ++ e ∷ []) (with_record l w m)
tells_more s log e l w m late one number told n from =
    ap (filter (is_from n)) (records_told-append s log (e ∷ []) late ∙ ap (λ cs. records_told s log ++ cs) one)
    ∙ filter-append (is_from n) (records_told s log) (c ∷ [])
    ∙ ap (λ cs. cs ++ filter (is_from n) (c ∷ [])) (told n from)
    ∙ ⊎_elim behind among (cases_lt (next_number l) n)
  where
    k : ℕ
    k = n - l.header.start

    c : Commit
    c = commit_says s.epoch w.says

    say : List WrittenRecord → List Commit
    say ws = map (commit_says s.epoch) (all_say (drop k ws))

    none : (ws : List WrittenRecord) → length ws ≤ k → say ws ≡ []
    none ws le = ap (λ vs. map (commit_says s.epoch) (all_say vs)) (drop_all k ws le)

    behind : next_number l < n → say l.records ++ filter (is_from n) (c ∷ []) ≡ say (l.records ++ w ∷ [])
    behind past =
        ap₂ (λ cs ds. cs ++ ds) (none l.records (omega (arith, past))) (none_from n c (omega (arith, past, number)))
        ∙ sym (none (l.records ++ w ∷ []) (omega (arith, past, length-append l.records (w ∷ []))))

    among : n ≤ next_number l → say l.records ++ filter (is_from n) (c ∷ []) ≡ say (l.records ++ w ∷ [])
    among upto =
        ap (λ cs. say l.records ++ cs) (one_from n c (omega (arith, upto, number)))
        ∙ sym (ap (λ ws. map (commit_says s.epoch) (all_say ws)) (drop-append-le k l.records (w ∷ []) (omega (arith, upto)))
        ∙ ap (map (commit_says s.epoch)) (say_append (drop k l.records) (w ∷ []))
        ∙ map-append (commit_says s.epoch) (all_say (drop k l.records)) (w.says ∷ []))

-- What is told of a session.

-- the ring places of the records from a number on
pub places_of_all : (n : ℕ) (cs : List Commit) (epoch : ℕ) (rs : List Record) → filter (is_from n) cs ≡ map (commit_says epoch) rs → places_from n cs ≡ all_places rs
places_of_all n cs epoch rs e = of_filter cs ∙ ap total e ∙ of_says rs
  where
    total : List Commit → ℕ
    total [] = 0
    total (c ∷ cs) = places_told c + total cs

    by : (b : Bool) (c : Commit) (cs : List Commit) (x : ℕ) → x ≡ total cs → (if b then places_told c else 0) + x ≡ total (if b then c ∷ cs else cs)
    by true c cs x e = omega (arith, e)
    by false c cs x e = omega (arith, e)

    of_filter : (cs : List Commit) → places_from n cs ≡ total (filter (is_from n) cs)
    of_filter [] = refl
    of_filter (c ∷ cs) = by (is_from n c) c (filter (is_from n) cs) (places_from n cs) (of_filter cs)

    of_says : (rs : List Record) → total (map (commit_says epoch) rs) ≡ all_places rs
    of_says [] = refl
    of_says (r ∷ rs) = omega (arith, of_says rs)

-- a session's log tells one record more where its ledger has one more
pub one_more : (s : MountedSession) (base : Blocks) (log more : List Event) (l : Ledger) (w : WrittenRecord) (m : Blocks) → HasPoints s base log l → HasPoints s base (log ++ more) (with_record l w m) → records_told s (log ++ more) ≡ records_told s log ++ commit_says s.epoch w.says ∷ []
one_more s base log more l w m old new = records_told-append s log more old.late ∙ ap (λ cs. records_told s log ++ cs) (by (commits_told s.geom s.epoch more) (omega (arith, count_told s.geom s.epoch more, points_in-append s log more old.late, old.count, new.count, length-append l.records (w ∷ []))) told)
  where
    next : ℕ
    next = next_number l

    says : Commit
    says = commit_says s.epoch w.says

    none : filter (is_from next) (records_told s log) ≡ []
    none = old.told next (omega arith) ∙ ap (λ ws. map (commit_says s.epoch) (all_say ws)) (drop_all (next - l.header.start) l.records (omega arith))

    told : filter (is_from next) (commits_told s.geom s.epoch more) ≡ says ∷ []
    told =
        sym (ap (λ cs. cs ++ filter (is_from next) (commits_told s.geom s.epoch more)) none)
        ∙ sym (ap (filter (is_from next)) (records_told-append s log more old.late) ∙ filter-append (is_from next) (records_told s log) (commits_told s.geom s.epoch more))
        ∙ new.told next (omega arith)
        ∙ ap (λ ws. map (commit_says s.epoch) (all_say ws)) (ap (λ k. drop k (l.records ++ w ∷ [])) (omega arith) ∙ drop-append_seam l.records (w ∷ []))

    is_it : (b : Bool) (c : Commit) → (if b then c ∷ [] else []) ≡ says ∷ [] → c ∷ [] ≡ says ∷ []
    is_it true c e = e
    is_it false c e = cc

    by : (cs : List Commit) → length cs ≡ 1 → filter (is_from next) cs ≡ says ∷ [] → cs ≡ says ∷ []
    by [] n e = cc
    by (c ∷ []) n e = is_it (is_from next c) c e
    by (c ∷ d ∷ cs) n e = absurd (omega (arith, n))

-- and no other where its ledger has none more
pub none_more : (s : MountedSession) (base : Blocks) (log more : List Event) (l k : Ledger) → HasPoints s base log l → HasPoints s base (log ++ more) k → next_number k ≡ next_number l → records_told s (log ++ more) ≡ records_told s log
none_more s base log more l k old new same = records_told-append s log more old.late ∙ ap (λ cs. records_told s log ++ cs) (empty (commits_told s.geom s.epoch more) (omega (arith, count_told s.geom s.epoch more, points_in-append s log more old.late, old.count, new.count, same))) ∙ append-nil (records_told s log)
  where
    empty : (cs : List Commit) → length cs ≡ 0 → cs ≡ []
    empty [] e = refl
    empty (c ∷ cs) e = absurd (omega (arith, e))
