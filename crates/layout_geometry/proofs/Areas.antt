-- The areas of a geometry follow each other without a gap.
use Rattle.std.proofs.Common.{◌≡◌, ℕ, ◌<◌, ◌∙◌, sym, true, nat_lt, if◌then◌else◌, arith}
use Rattle.std.proofs.lemmas.Bool.Decides.{nat_tests}
use Rattle.std.proofs.lemmas.Bool.{cond_both, ltb-true, ltb-false}
use Rattle.layout_geometry.specs.Geometry.{Geometry, IsGeometry, Area, LiesIn, geometry_fits, bitmap_start, table_start, data_start}
use Rattle.layout_geometry.specs.Geometry.Area.{Headers, Journal, Bitmap, Table, Data}
use Rattle.layout_geometry.proofs.Limits.{within_limits}

-- the area of a block, by where the areas begin
abbrev area_of : Geometry → ℕ → Area
area_of g b =
    if nat_lt b 2 then Headers
    else (if nat_lt b (bitmap_start g) then Journal
    else (if nat_lt b (table_start g) then Bitmap
    else (if nat_lt b (data_start g) then Table else Data)))

-- a block of an area has that area
is_area_of : (g : Geometry) (a : Area) (b : ℕ) → LiesIn g a b → area_of g b ≡ a
is_area_of g Headers b l = grind (arith, nat_tests, l.below)
is_area_of g Journal b l = grind (arith, nat_tests, l.from, l.below)
is_area_of g Bitmap b l = grind (arith, nat_tests, l.from, l.below)
is_area_of g Table b l = grind (arith, nat_tests, l.from, l.below)
is_area_of g Data b l = grind (arith, nat_tests, l.from)

-- the block is in the area
abbrev LiesInIt : Geometry → ℕ → Area → Type 0
LiesInIt g b a = LiesIn g a b

-- a block of the disk lies in its area
lies_in_own : (g : Geometry) (b : ℕ) → b < g.n → LiesIn g (area_of g b) b
lies_in_own g b below =
    cond_both (nat_lt b 2) Headers _ (LiesInIt g b) (λ e. record { from = omega arith; below = ltb-true _ _ e }) (λ a.
    cond_both (nat_lt b (bitmap_start g)) Journal _ (LiesInIt g b) (λ e. record { from = ltb-false _ _ a; below = ltb-true _ _ e }) (λ j.
    cond_both (nat_lt b (table_start g)) Bitmap _ (LiesInIt g b) (λ e. record { from = ltb-false _ _ j; below = ltb-true _ _ e }) (λ m.
    cond_both (nat_lt b (data_start g)) Table Data (LiesInIt g b) (λ e. record { from = ltb-false _ _ m; below = ltb-true _ _ e }) (λ t.
    record { from = ltb-false _ _ t; below = below }))))

pub lies : (g : Geometry) (b : ℕ) → geometry_fits g ≡ true → b < g.n → (a : Area) × LiesIn g a b
lies g b fits below = (area_of g b, lies_in_own g b below)

pub alone : (g : Geometry) (a other : Area) (b : ℕ) → geometry_fits g ≡ true → LiesIn g a b → LiesIn g other b → other ≡ a
alone g a other b fits l o = sym (is_area_of g other b o) ∙ is_area_of g a b l

-- the last area ends with the disk
within_disk : (g : Geometry) (a : Area) (b : ℕ) → IsGeometry g → LiesIn g a b → b < g.n
within_disk g Headers b is l = omega (arith, l.below, is.least_blocks)
within_disk g Journal b is l = omega (arith, l.below, is.data_room)
within_disk g Bitmap b is l = omega (arith, l.below, is.data_room)
within_disk g Table b is l = omega (arith, l.below, is.data_room)
within_disk g Data b is l = l.below

pub within : (g : Geometry) (a : Area) (b : ℕ) → geometry_fits g ≡ true → LiesIn g a b → b < g.n
within g a b fits l = within_disk g a b (within_limits g fits) l
