-- A page that is told stands within the buffer.
use Rattle.std.proofs.Common.{sym, length-take-le}
use Rattle.book.proofs.Pages.{page_is_within}
use Rattle.book.proofs.write_page.Goals as goal

pub slice_bounds-text-end : goal.slice_bounds-text-end
slice_bounds-text-end g c = page_is_within _ _ _ _ _ c.in-Ok.ensures.told c.in-Ok.ensures.left

pub slice_bounds-write-end : goal.slice_bounds-write-end
slice_bounds-write-end g c = sym (length-take-le _ _ (page_is_within _ _ _ _ _ c.in-Ok.ensures.told c.in-Ok.ensures.left))
