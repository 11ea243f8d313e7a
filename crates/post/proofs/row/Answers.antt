-- `row` meets its contract: the row lies within its table and is the table's own cells. Assumes nothing.
use Rattle.lowering.proofs.Common.{rules, arith}
use native.Mathlib.Nat.{add-sub_cancel_left}
use Rattle.plan.proofs.TestsMade.{passed}
use Rattle.rules.specs.declared.Side.TheVariants.{Strict, Open}
use Rattle.rules.proofs.Rows.{fitting, row_end, row_there}
use Rattle.post.proofs.RowAnswers.{square_small, no_row}
use Rattle.post.proofs.row.Goals as goal

pub returns-then-not-has_row : goal.returns-then-not-has_row
returns-then-not-has_row c = search no_row

-- past the test there is a row, which fits

pub overflow_mul-from : goal.overflow_mul-from
overflow_mul-from c =
    let f = fitting _ _ _ _ (passed c.has_row.ensures c.if-not-has_row.false) in omega (arith, row_end f, square_small f)

pub overflow_add-to : goal.overflow_add-to
overflow_add-to c =
    let f = fitting _ _ _ _ (passed c.has_row.ensures c.if-not-has_row.false) in omega (arith, row_end f, square_small f)

pub offset_bounds-strict-from : goal.offset_bounds-strict-from
offset_bounds-strict-from c =
    let f = fitting _ _ _ _ (passed c.has_row.ensures c.if-not-has_row.false) in omega (arith, row_end f, square_small f)

pub slice_bounds-result-end-in-Strict : goal.slice_bounds-result-end-in-Strict
slice_bounds-result-end-in-Strict c =
    let f = fitting _ _ _ _ (passed c.has_row.ensures c.if-not-has_row.false) in omega (arith, row_end f)

pub offset_bounds-open-from : goal.offset_bounds-open-from
offset_bounds-open-from c =
    let f = fitting _ _ _ _ (passed c.has_row.ensures c.if-not-has_row.false) in omega (arith, row_end f, square_small f)

pub slice_bounds-result-end-in-Open : goal.slice_bounds-result-end-in-Open
slice_bounds-result-end-in-Open c =
    let f = fitting _ _ _ _ (passed c.has_row.ensures c.if-not-has_row.false) in omega (arith, row_end f)

-- The numbers are shown by `cc`, which takes them from any list known to be equal: so equal numbers from elsewhere are refused at their place alone.

pub returns-in-Strict : goal.returns-in-Strict
returns-in-Strict c =
    let a = c.args in
    let there = passed c.has_row.ensures c.if-not-has_row.false in
    rw c.in-Strict.is
    (record {
      cells = simp add-sub_cancel_left (cc (row_there a.strict.now a.«open».now a.n a.x Strict there));
      own = λ e. search rules;
    })

pub returns-in-Open : goal.returns-in-Open
returns-in-Open c =
    let a = c.args in
    let there = passed c.has_row.ensures c.if-not-has_row.false in
    rw c.in-Open.is
    (record {
      cells = simp add-sub_cancel_left (cc (row_there a.strict.now a.«open».now a.n a.x Open there));
      own = λ e. search rules;
    })
