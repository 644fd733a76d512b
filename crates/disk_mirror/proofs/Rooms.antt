-- The room of an order, as writes, notices and reports come.
use Rattle.std.proofs.Common.{◌≡◌, ℕ, zero, suc, ◌<◌, ◌≤◌, ◌+◌, ◌-◌, true, false, if◌then◌else◌, List, [], ◌∷◌, ◌++◌, length, slice_set, get_or, refl, ◌∙◌, ap, arith, length-append}
use Rattle.disk_mirror.specs.declared.entry.Entry.{Entry}
use Rattle.disk_mirror.specs.declared.entry.Pair.{Pair}
use Rattle.disk_mirror.specs.declared.entry.Heard.{Heard}
use Rattle.disk_mirror.specs.declared.entry.Came.{Came}
use Rattle.disk_mirror.specs.Twin.{unheard}
use Rattle.disk_mirror.specs.declared.entry.Side.{Side}
use Rattle.disk_mirror.specs.declared.entry.Side.TheVariants.{First, Second}
use Rattle.disk_mirror.specs.Rows.{set_heard, reported_in, HasRoom}

abbrev pub flag : Heard → ℕ
flag h = if h.reported then 1 else 0

pub reported-append : (hs : List Heard) (h : Heard) → reported_in (hs ++ h ∷ []) ≡ reported_in hs + flag h
reported-append [] h = omega arith
reported-append (x ∷ hs) h = omega (arith, reported-append hs h)

pub length-set : (hs : List Heard) (k : ℕ) (h : Heard) → length (slice_set hs k h) ≡ length hs
length-set [] k h = refl
length-set (x ∷ hs) zero h = refl
length-set (x ∷ hs) (suc k) h = ap suc (length-set hs k h)

pub reported-set : (hs : List Heard) (k : ℕ) (h : Heard) → k < length hs → reported_in (slice_set hs k h) + flag (get_or hs k unheard) ≡ reported_in hs + flag h
reported-set [] k h low = absurd (none k low)
  where
    none : (k : ℕ) → k < 0 → ⊥
    none k low = omega (arith, low)
reported-set (x ∷ hs) zero h low = omega arith
reported-set (x ∷ hs) (suc k) h low = omega (arith, reported-set hs k h (omega (arith, low)))

-- an accepted write
pub room_accept : (es fs : List Entry) (ts us : List Came) (ps qs : List Pair) (hs is : List Heard) (room me mt mp mh ne nt np nh : ℕ) (e : Entry) (t : Came) (p : Pair) → HasRoom es ts ps hs room me mt mp mh → length ps < room
    → fs ≡ es ++ e ∷ [] → us ≡ ts ++ t ∷ [] → qs ≡ ps ++ p ∷ [] → is ≡ hs ++ unheard ∷ [] → me ≤ ne → mt ≤ nt → mp ≤ np → mh ≤ nh → HasRoom fs us qs is room ne nt np nh
room_accept es fs ts us ps qs hs is room me mt mp mh ne nt np nh e t p h more f u q i ue ut up uh =
    let tl : length us ≡ length ts + 1 = ap (λ (l : List Came). length l) u ∙ length-append ts (t ∷ []) in
    let fl : length fs ≡ length es + 1 = ap (λ (l : List Entry). length l) f ∙ length-append es (e ∷ []) in
    let ql : length qs ≡ length ps + 1 = ap (λ (l : List Pair). length l) q ∙ length-append ps (p ∷ []) in
    let il : length is ≡ length hs + 1 = ap (λ (l : List Heard). length l) i ∙ length-append hs (unheard ∷ []) in
    let ir : reported_in is ≡ reported_in hs + 0 = ap reported_in i ∙ reported-append hs unheard in
    record {
      rows = omega (arith, h.rows, ql, il);
      timed = omega (arith, h.timed, tl, fl);
      few = omega (arith, more, ql);
      short = h.short;
      unreported = omega (arith, h.unreported, ir, ql);
      all = omega (arith, h.all, h.unreported, fl, ql, ir, more);
      events_fit = omega (arith, h.events_fit, h.unreported, fl, ql, ir, more, ue);
      times_fit = omega (arith, h.times_fit, h.unreported, fl, ql, ir, more, ut);
      pairs_fit = omega (arith, h.pairs_fit, up);
      heard_fit = omega (arith, h.heard_fit, uh);
    }

-- a notice of a disk, which changes one row and reports nothing
pub room_hear : (es : List Entry) (ts : List Came) (ps : List Pair) (hs js : List Heard) (k : ℕ) (x : Heard) (room me mt mp mh nh : ℕ) → HasRoom es ts ps hs room me mt mp mh → k < length hs
    → flag x ≡ flag (get_or hs k unheard) → js ≡ slice_set hs k x → mh ≤ nh → HasRoom es ts ps js room me mt mp nh
room_hear es ts ps hs js k x room me mt mp mh nh h low same j uh =
    let is = ap (λ n. n + flag (get_or hs k unheard)) (ap reported_in j) ∙ reported-set hs k x low in
    let rl = ap (λ (l : List Heard). length l) j ∙ length-set hs k x in
    record {
      rows = rl ∙ h.rows;
      timed = h.timed;
      few = h.few;
      short = h.short;
      unreported = omega (arith, h.unreported, is, same);
      all = omega (arith, h.all, is, same);
      events_fit = omega (arith, h.events_fit, is, same);
      times_fit = omega (arith, h.times_fit, is, same);
      pairs_fit = h.pairs_fit;
      heard_fit = omega (arith, h.heard_fit, uh);
    }

-- a report
pub room_report : (es fs : List Entry) (ts us : List Came) (ps : List Pair) (hs js : List Heard) (k : ℕ) (x : Heard) (e : Entry) (t : Came) (room me mt mp mh ne nt nh : ℕ) → HasRoom es ts ps hs room me mt mp mh → k < length hs
    → flag x ≡ 1 → flag (get_or hs k unheard) ≡ 0 → fs ≡ es ++ e ∷ [] → us ≡ ts ++ t ∷ [] → js ≡ slice_set hs k x → me ≤ ne → mt ≤ nt → mh ≤ nh → HasRoom fs us ps js room ne nt mp nh
room_report es fs ts us ps hs js k x e t room me mt mp mh ne nt nh h low one none f u j ue ut uh =
    let tl : length us ≡ length ts + 1 = ap (λ (l : List Came). length l) u ∙ length-append ts (t ∷ []) in
    let is = ap (λ n. n + flag (get_or hs k unheard)) (ap reported_in j) ∙ reported-set hs k x low in
    let rl = ap (λ (l : List Heard). length l) j ∙ length-set hs k x in
    let fl : length fs ≡ length es + 1 = ap (λ (l : List Entry). length l) f ∙ length-append es (e ∷ []) in
    let up = reported-most js in
    record {
      rows = rl ∙ h.rows;
      timed = omega (arith, h.timed, tl, fl);
      few = h.few;
      short = h.short;
      unreported = omega (arith, up, rl, h.rows);
      all = omega (arith, h.all, is, one, none, fl, up, rl, h.rows);
      events_fit = omega (arith, h.events_fit, is, one, none, fl, up, rl, h.rows, ue);
      times_fit = omega (arith, h.times_fit, is, one, none, fl, up, rl, h.rows, ut);
      pairs_fit = h.pairs_fit;
      heard_fit = omega (arith, h.heard_fit, uh);
    }
  where
    reported-most : (hs : List Heard) → reported_in hs ≤ length hs
    reported-most [] = omega arith
    reported-most (x ∷ hs) = elim (x.reported) as (λ v. (if v then 1 else 0) + reported_in hs ≤ suc (length hs)) [ true ↦ omega (arith, reported-most hs) | false ↦ omega (arith, reported-most hs) ]

-- so there is room for the event of a report
pub report_fits : (es : List Entry) (ts : List Came) (ps : List Pair) (hs : List Heard) (k : ℕ) (room me mt mp mh : ℕ) → HasRoom es ts ps hs room me mt mp mh → k < length hs → flag (get_or hs k unheard) ≡ 0 → (length es < me) × (length ts < mt)
report_fits es ts ps hs k room me mt mp mh h low none = (omega (arith, h.events_fit, h.rows, fewer hs k low none), omega (arith, h.times_fit, h.timed, h.rows, fewer hs k low none))
  where
    most : (hs : List Heard) → reported_in hs ≤ length hs
    most [] = omega arith
    most (x ∷ hs) = elim (x.reported) as (λ v. (if v then 1 else 0) + reported_in hs ≤ suc (length hs)) [ true ↦ omega (arith, most hs) | false ↦ omega (arith, most hs) ]

    fewer : (hs : List Heard) (k : ℕ) → k < length hs → flag (get_or hs k unheard) ≡ 0 → reported_in hs < length hs
    fewer [] k low none = absurd (below k low)
      where
        below : (k : ℕ) → k < 0 → ⊥
        below k low = omega (arith, low)
    fewer (x ∷ hs) zero low none = omega (arith, none, most hs)
    fewer (x ∷ hs) (suc k) low none = elim (x.reported) as (λ v. (if v then 1 else 0) + reported_in hs < suc (length hs)) [ true ↦ omega (arith, fewer hs k (omega (arith, low)) none) | false ↦ omega (arith, fewer hs k (omega (arith, low)) none) ]

pub flag-heard : (s : Side) (h : Heard) → flag (set_heard s h) ≡ flag h
flag-heard First h = refl
flag-heard Second h = refl

pub flag_none : (h : Heard) → h.reported ≡ false → flag h ≡ 0
flag_none h e = ap (λ v. if v then 1 else 0) e

-- the row of a ticket is at the place one below
pub row_at : (hs : List Heard) (t : ℕ) → 0 < t → get_or (unheard ∷ hs) t unheard ≡ get_or hs (t - 1) unheard
row_at hs zero low = absurd (none low)
  where
    none : 0 < 0 → ⊥
    none low = omega (arith, low)
row_at hs (suc t) low = ap (λ k. get_or hs k unheard) {x = t} {y = suc t - 1} (omega arith)

-- a write that failed on the last live disk takes its room
pub room_fail : (es fs : List Entry) (ts us : List Came) (ps : List Pair) (hs : List Heard) (room now me mt mp mh ne nt : ℕ) (e : Entry) (t : Came) → HasRoom es ts ps hs room me mt mp mh → length ps < room → now ≡ room - 1
    → fs ≡ es ++ e ∷ [] → us ≡ ts ++ t ∷ [] → me ≤ ne → mt ≤ nt → HasRoom fs us ps hs now ne nt mp mh
room_fail es fs ts us ps hs room now me mt mp mh ne nt e t h more less f u ue ut =
    let tl : length us ≡ length ts + 1 = ap (λ (l : List Came). length l) u ∙ length-append ts (t ∷ []) in
    let fl : length fs ≡ length es + 1 = ap (λ (l : List Entry). length l) f ∙ length-append es (e ∷ []) in
    record {
      rows = h.rows;
      timed = omega (arith, h.timed, tl, fl);
      few = omega (arith, more, less);
      short = omega (arith, h.short, less);
      unreported = h.unreported;
      all = omega (arith, h.all, fl, less, more);
      events_fit = omega (arith, h.events_fit, fl, less, more, ue);
      times_fit = omega (arith, h.times_fit, fl, less, more, ut);
      pairs_fit = omega (arith, h.pairs_fit, less);
      heard_fit = omega (arith, h.heard_fit, less);
    }
