-- The bounds that a disk of a geometry sets to the trees on it.
use Rattle.layout_geometry.specs.Geometry.{Geometry}
use Rattle.lang_tree.specs.Tree.{Bounds}

-- as many nodes as the geometry has, and names as its layout takes them
abbrev pub bounds_of : Geometry → Bounds
bounds_of g = record { nodes = g.i; layout = g.layout }
