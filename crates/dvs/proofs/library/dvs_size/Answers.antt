-- `dvs::library::dvs_size` meets its contract: each number has the length that the tables give it.
use Rattle.std.proofs.Common.{rules}
use Rattle.dvs.specs.Library.{member_size, group_size, size_of}
use Rattle.dvs.proofs.library.dvs_size.Goals as goal

pub returns-in-1 : goal.returns-in-1
unfolding size_of member_size group_size
returns-in-1 c = search rules

pub returns-in-2 : goal.returns-in-2
unfolding size_of member_size group_size
returns-in-2 c = search rules

pub returns-in-3 : goal.returns-in-3
unfolding size_of member_size group_size
returns-in-3 c = search rules

pub returns-in-4 : goal.returns-in-4
unfolding size_of member_size group_size
returns-in-4 c = search rules

pub returns-in-5 : goal.returns-in-5
unfolding size_of member_size group_size
returns-in-5 c = search rules

pub returns-in-6 : goal.returns-in-6
unfolding size_of member_size group_size
returns-in-6 c = search rules

pub returns-in-7 : goal.returns-in-7
unfolding size_of member_size group_size
returns-in-7 c = search rules

pub returns-in-8 : goal.returns-in-8
unfolding size_of member_size group_size
returns-in-8 c = search rules

pub returns-in-9 : goal.returns-in-9
unfolding size_of member_size group_size
returns-in-9 c = search rules

pub returns-in-10 : goal.returns-in-10
unfolding size_of member_size group_size
returns-in-10 c = search rules

pub returns-in-11 : goal.returns-in-11
unfolding size_of member_size group_size
returns-in-11 c = search rules

pub returns-in-12 : goal.returns-in-12
unfolding size_of member_size group_size
returns-in-12 c = search rules

pub returns-in_default : goal.returns-in_default
unfolding size_of member_size group_size
returns-in_default c = search rules
