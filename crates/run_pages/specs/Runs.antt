-- A pager whose names and board stay, as contracts see it. [This project's own words.]
use Rattle.page_watch.specs.declared.pager.Pager.{Pager}
use Rattle.run_pages.specs.declared.bound.BoundPager.{BoundPager}
use Rattle.run_pages.specs.declared.bound.PageBoard as PageBoard

-- the pager
abbrev pub pager_of : {N : Type 0} {picked : PageBoard.Ghosts N} → BoundPager N picked → Pager
pager_of p = p.pager
