-- The line ends where the scan from its start ends, and is trimmed. Assumes nothing.
use mathlib.Core.Path.{◌∙◌}
use borrow.Author.Rules.{rules}
use Rattle.names.proofs.Scan.{line_is}
use Rattle.names.proofs.lines.line.Goals as goal

pub slice_bounds-trim-count : goal.slice_bounds-trim-count
slice_bounds-trim-count c = let e = c.line_end-e.ensures c.line_start-a.ensures.inside in search rules

pub slice_bounds-trim-start : goal.slice_bounds-trim-start
slice_bounds-trim-start c = let e = c.line_end-e.ensures c.line_start-a.ensures.inside in search rules

pub slice_bounds-trim-end : goal.slice_bounds-trim-end
slice_bounds-trim-end c = let e = c.line_end-e.ensures c.line_start-a.ensures.inside in search rules

pub returns : goal.returns
returns c = c.trim.ensures ∙ line_is _ _ _ c.line_start-a.ensures _ (c.line_end-e.ensures c.line_start-a.ensures.inside)
