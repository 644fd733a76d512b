-- The figures that a value has. What they are of each command is defined in Figures, and described in docs/TREE.md.
use Rattle.lang_tree.specs.Figures.{Figures as FiguresValue}
use Rattle.lang_tree.specs.declared.figures.Figures.{Figures}

abbrev pub value_of : Figures → FiguresValue
value_of f = record { need = f.need; cost = f.cost; freed = f.freed }
