use Rattle.tiffpage_lib.proofs.program.execute.Goals as goal

pub returns-in-Gray : goal.returns-in-Gray
returns-in-Gray g c = rw c.in-Gray.is c.write_gray.ensures

pub returns-in-Raw : goal.returns-in-Raw
returns-in-Raw g c = rw c.in-Raw.is c.write_samples.ensures

pub returns-in-View : goal.returns-in-View
returns-in-View g c = rw c.in-View.is c.write_picture.ensures

pub returns-in-Tags : goal.returns-in-Tags
returns-in-Tags g c = rw c.in-Tags.is c.list_page.ensures

pub returns-in-List : goal.returns-in-List
returns-in-List g c = rw c.in-List.is c.list_pages.ensures

pub returns-in-Directories : goal.returns-in-Directories
returns-in-Directories g c = rw c.in-Directories.is c.list_directories.ensures

pub returns-in-Check : goal.returns-in-Check
returns-in-Check g c = rw c.in-Check.is c.check_pages.ensures

pub returns-in-Calls : goal.returns-in-Calls
returns-in-Calls g c = rw c.in-Calls.is c.call_replies.ensures

pub returns-in-Jobs : goal.returns-in-Jobs
returns-in-Jobs g c = rw c.in-Jobs.is c.job_replies.ensures

pub returns-in-Append : goal.returns-in-Append
returns-in-Append g c = rw c.in-Append.is c.append_jobs.ensures
