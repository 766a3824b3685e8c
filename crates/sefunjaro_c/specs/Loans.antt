-- What a copy of a handle has while it reads: a part of a loan of what the handle owns.
use Rattle.std.specs.Prelude.{Option, Some, None}
use base.Fml.{Fml, Lft, Share, ftrue, fsep, flft}
use base.Stored.{Coded, coded_ℕ}
use base.SetCodes.{coded_share}
use denote.RawPtr.{Ptr}
use denote.Struct.Lending.{lent_at}
use Rattle.std.specs.Coded.{coded×, coded_list}
use Rattle.sefunjaro_c.specs.contracts.opened.Opened.{the_row}

-- a loan: its lifetime, and a share of the right to end it
abbrev pub Loan : Type 0
Loan = Lft × Share

-- what a part of a loan owns: a share of its lifetime, and what a `&` to the value has for as long as that lasts
abbrev pub part_owns : Ptr → the_row.Denot → Loan → Fml
part_owns at value loan = fsep (flft loan.0 loan.1) (lent_at the_row at value loan.0)

abbrev pub loan_owns : Ptr → Option the_row.Denot → Loan → Fml
loan_owns at None loan = ftrue
loan_owns at (Some value) loan = part_owns at value loan

-- what a `&` to such a part has
abbrev pub part_shares : Ptr → the_row.Denot → Lft → Fml
part_shares at value = lent_at the_row at value

-- by which a proof tells apart what is lent
abbrev pub lent_coded : Coded the_row.Denot
lent_coded = the_row.coded

-- and loans
abbrev pub loan_coded : Coded Loan
loan_coded = coded× (coded_list coded_ℕ) coded_share
