use Rattle.lang_making.proofs.laws.layout_two_takes_all_names.Goals as goal

pub returns : goal.returns
returns c = λ names short p n at. c.layouts_differ_in_long_names_alone.ensures.never p (short p n at)
