use Rattle.std.proofs.Common.{sym, ◌∙◌}
use Rattle.file_read.proofs.ContentsLaws.{short-file, other_format, other-rows, by-marks}
use Rattle.file_read.proofs.contents.right.Goals.{then-file-lt64-via-then-file-lt64, then-file-lt64-via-else-file-lt64+then-word-ne1}
use Rattle.file_read.proofs.contents.right.Goals as goal

pub returns-then-file-lt64 : goal.returns-then-file-lt64
returns-then-file-lt64 c = elim c.then-file-lt64.branch [
  | then-file-lt64-via-then-file-lt64 w ↦ short-file _ w.if-file-lt64.true
  | then-file-lt64-via-else-file-lt64+then-word-ne1 w ↦ other_format _ w.if-file-lt64.false (λ e. w.if-word-ne1.true (w.word.ensures.value ∙ e))
]

pub returns-then-rows_right : goal.returns-then-rows_right
returns-then-rows_right c = by-marks _ _ c.counts-c.ensures.value c.if-file-lt64.false (sym c.word.ensures.value ∙ c.if-word-ne1.false) (sym c.rows_right.ensures ∙ c.if-rows_right.true) c.marks_right.ensures

pub returns-else-rows_right : goal.returns-else-rows_right
returns-else-rows_right c = c.if-rows_right.false ∙ other-rows _ _ c.counts-c.ensures.value c.if-file-lt64.false (sym c.word.ensures.value ∙ c.if-word-ne1.false) (sym c.rows_right.ensures ∙ c.if-rows_right.false)
