-- Each range has the classes of its arm.
use Rattle.std.proofs.Common.{refl, arith}
use Rattle.sc_fmt.proofs.Ranges.{in_range}
use Rattle.sc_fmt.proofs.classes.class.Goals as goal

pub returns-in-32 : goal.returns-in-32
returns-in-32 c = in_range 32 1 320 c.args.c refl (omega arith) (omega arith)

pub returns-in-127 : goal.returns-in-127
returns-in-127 c = in_range 127 1 4 c.args.c refl (omega arith) (omega arith)

pub returns-in-0-to-8 : goal.returns-in-0-to-8
returns-in-0-to-8 c = in_range 0 9 4 c.args.c refl (omega arith) (omega arith)

pub returns-in-9-to-13 : goal.returns-in-9-to-13
returns-in-9-to-13 c = in_range 9 5 260 c.args.c refl (omega arith) (omega arith)

pub returns-in-14-to-31 : goal.returns-in-14-to-31
returns-in-14-to-31 c = in_range 14 18 4 c.args.c refl (omega arith) (omega arith)

pub returns-in-33-to-47 : goal.returns-in-33-to-47
returns-in-33-to-47 c = in_range 33 15 208 c.args.c refl (omega arith) (omega arith)

pub returns-in-48-to-57 : goal.returns-in-48-to-57
returns-in-48-to-57 c = in_range 48 10 1113 c.args.c refl (omega arith) (omega arith)

pub returns-in-58-to-64 : goal.returns-in-58-to-64
returns-in-58-to-64 c = in_range 58 7 208 c.args.c refl (omega arith) (omega arith)

pub returns-in-65-to-70 : goal.returns-in-65-to-70
returns-in-65-to-70 c = in_range 65 6 1619 c.args.c refl (omega arith) (omega arith)

pub returns-in-71-to-90 : goal.returns-in-71-to-90
returns-in-71-to-90 c = in_range 71 20 595 c.args.c refl (omega arith) (omega arith)

pub returns-in-91-to-96 : goal.returns-in-91-to-96
returns-in-91-to-96 c = in_range 91 6 208 c.args.c refl (omega arith) (omega arith)

pub returns-in-97-to-102 : goal.returns-in-97-to-102
returns-in-97-to-102 c = in_range 97 6 1139 c.args.c refl (omega arith) (omega arith)

pub returns-in-103-to-122 : goal.returns-in-103-to-122
returns-in-103-to-122 c = in_range 103 20 115 c.args.c refl (omega arith) (omega arith)

pub returns-in-123-to-126 : goal.returns-in-123-to-126
returns-in-123-to-126 c = in_range 123 4 208 c.args.c refl (omega arith) (omega arith)

pub returns-in-128-to-255 : goal.returns-in-128-to-255
returns-in-128-to-255 c = in_range 128 128 0 c.args.c refl (omega arith) (omega arith)
