use Rattle.tiffpage_lib.proofs.Words.{none_named}
use Rattle.tiffpage_lib.proofs.command.parse_named.Goals as goal

pub returns-in-raw-clause-none : goal.returns-in-raw-clause-none
returns-in-raw-clause-none c = none_named _ _ _ (rw c.in-raw.is c.parse_raw.ensures.none)

pub returns-in-view-clause-none : goal.returns-in-view-clause-none
returns-in-view-clause-none c = none_named _ _ _ (rw c.in-view.is c.parse_view.ensures.none)

pub returns-in-check-clause-none : goal.returns-in-check-clause-none
returns-in-check-clause-none c = none_named _ _ _ (rw c.in-check.is c.parse_check.ensures.none)

pub returns-in-jobs-clause-none : goal.returns-in-jobs-clause-none
returns-in-jobs-clause-none c = none_named _ _ _ (rw c.in-jobs.is c.parse_jobs.ensures.none)

pub returns-in-gray-clause-none : goal.returns-in-gray-clause-none
returns-in-gray-clause-none c = none_named _ _ _ (rw c.in-gray.is c.parse_gray.ensures.none)

pub returns-in-tags-clause-none : goal.returns-in-tags-clause-none
returns-in-tags-clause-none c = none_named _ _ _ (rw c.in-tags.is c.parse_tags.ensures.none)

pub returns-in-list-clause-none : goal.returns-in-list-clause-none
returns-in-list-clause-none c = none_named _ _ _ (rw c.in-list.is c.parse_list.ensures.none)

pub returns-in-directories-clause-none : goal.returns-in-directories-clause-none
returns-in-directories-clause-none c = none_named _ _ _ (rw c.in-directories.is c.parse_directories.ensures.none)

pub returns-in-calls-clause-none : goal.returns-in-calls-clause-none
returns-in-calls-clause-none c = none_named _ _ _ (rw c.in-calls.is c.parse_calls.ensures.none)

pub returns-in-append-clause-none : goal.returns-in-append-clause-none
returns-in-append-clause-none c = none_named _ _ _ (rw c.in-append.is c.parse_append.ensures.none)
